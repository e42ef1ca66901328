use Rattle.std.proofs.Common.{◌∙◌, ◌++◌, List, ℕ, ap, sym, string_bytes}
use Rattle.std.proofs.lemmas.List.{append_assoc, take_more}
use Rattle.tso_trace.proofs.NameLemmas.{name_ascii}
use Rattle.tso_trace.proofs.spelling.push_name.Goals as goal

pub loop-byte-preserved : goal.loop-byte-preserved
loop-byte-preserved c named =
    let old = string_bytes c.args.text.now in
    let k = c.loop-byte.byte-index in
    let small = name_ascii c.args.name.now k 0 named c.loop-byte-test.true in
    let coded = c.push.ensures.ascii (rw c.from.ensures small) in
    c.in_ok-push.ensures.bytes ∙ rw (c.loop-byte.invariant named, coded, c.from.ensures, append_assoc) (ap (λ (l : List ℕ). old ++ l) (sym (take_more c.args.name.now k 0 c.loop-byte-test.true)))
