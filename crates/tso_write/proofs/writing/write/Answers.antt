use Rattle.std.proofs.Common.{◌∙◌, ◌++◌, ap, subst, sym}
use Rattle.tso_cert.specs.Certificates.{magic, table_of}
use Rattle.tso_rec.specs.declared.basis.Grain.{Grain}
use Rattle.tso_cert.proofs.WriteLemmas.{on_err}
use Rattle.tso_write.proofs.WritingLemmas.{written, written_front, written_none, written_part}
use Rattle.tso_keys.specs.Orders.{IsRising}
use Rattle.tso_write.proofs.writing.write.Goals as goal

pub returns-in_err-front-clause-err : goal.returns-in_err-front-clause-err
returns-in_err-front-clause-err g c = on_err _ (written_none c.args.checked.now.client c.args.worked.now c.args.table.now _)

pub returns-in_err-numbers-clause-err : goal.returns-in_err-numbers-clause-err
returns-in_err-numbers-clause-err g c = on_err _ (written_none c.args.checked.now.client c.args.worked.now c.args.table.now _)

pub returns-in_err-put_bytes-clause-err : goal.returns-in_err-put_bytes-clause-err
returns-in_err-put_bytes-clause-err g c =
    on_err _ (written_front c.args.checked.now.client c.args.worked.now c.args.table.now _ _ c.in_ok-front.front.items _ c.in_ok-numbers.numbers.items c.in_ok-numbers.ensures (c.in_ok-front.ensures ∙ ap (λ (x : Grain). magic x ++ table_of x c.args.table.now) c.grain.ensures) c.as_slice.ensures.value c.in_err-put_bytes.ensures.err)

pub put_worked-requires-clause-rising : goal.put_worked-requires-clause-rising
put_worked-requires-clause-rising g c = λ k within. subst (IsRising c.args.worked.now.store.states) (sym c.as_slice-rising.ensures.value) c.in_ok-numbers.ensures

pub returns-in_err-put_worked-clause-err : goal.returns-in_err-put_worked-clause-err
returns-in_err-put_worked-clause-err g c =
    on_err _ (written_part c.args.checked.now.client c.args.worked.now c.args.table.now _ _ _ c.in_ok-front.front.items _ c.in_ok-numbers.numbers.items _ c.in_ok-numbers.ensures (c.in_ok-front.ensures ∙ ap (λ (x : Grain). magic x ++ table_of x c.args.table.now) c.grain.ensures) c.as_slice.ensures.value c.as_slice-rising.ensures.value
    c.in_ok-put_bytes.ensures.ok c.in_err-put_worked.ensures.err)

pub returns-clause-ok : goal.returns-clause-ok
returns-clause-ok g c =
    written c.args.checked.now.client c.args.worked.now c.args.table.now _ _ _ c.in_ok-front.front.items _ c.in_ok-numbers.numbers.items _ c.requires.worked c.in_ok-numbers.ensures c.states_differ.ensures c.certificates_fit.ensures
    (c.in_ok-front.ensures ∙ ap (λ (x : Grain). magic x ++ table_of x c.args.table.now) c.grain.ensures) c.as_slice.ensures.value c.as_slice-rising.ensures.value c.in_ok-put_bytes.ensures.ok c.in_ok-put_worked.ensures.ok
