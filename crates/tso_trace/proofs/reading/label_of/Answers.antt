use Rattle.std.proofs.Common.{◌∙◌, Some, ap, sym, subst, refl, List, ℕ, ◌∷◌, ◌++◌, decimal}
use Rattle.std.proofs.lemmas.Bool.{and_from, and_parts, lt-ltb, ltb-true}
use Rattle.std.proofs.lemmas.Option.{none-some, same_Some}
use Rattle.tso_trace.specs.Grammar.{IsLineOf}
use Rattle.tso_trace.proofs.LineLemmas.{decimal_lacks, same_cut}
use Rattle.tso_trace.proofs.SameLemmas.{same_label}
use Rattle.tso_trace.proofs.reading.label_of.Goals as goal

pub returns-in_err-thread : goal.returns-in_err-thread
returns-in_err-thread c l =
    rw c.from_residual.ensures (
      (λ e. absurd (none-some l e)),
      (λ is. absurd (c.in_err-thread.ensures l.thread _ (ltb-true _ _ (and_parts _ _ is.proper).0) is.spelled)),
    )

pub returns-in_err-kind : goal.returns-in_err-kind
returns-in_err-kind c l =
    rw c.from_residual-in_err-kind.ensures (
      (λ e. absurd (none-some l e)),
      (λ is.
          let proper = and_parts _ _ is.proper in
          let small = ltb-true _ _ proper.0 in
          let same = same_cut 32 _ _ _ _ (decimal_lacks 32 c.in_ok-thread.thread refl c.in_ok-thread.ensures.0) (decimal_lacks 32 l.thread refl small) (sym c.in_ok-thread.ensures.1 ∙ is.spelled) in
          absurd (c.in_err-kind.ensures l.kind proper.1 same.1)),
    )

pub returns : goal.returns
returns c l =
    let read : IsLineOf c.args.client.now.arrays c.args.line.now (record { thread = c.in_ok-thread.thread; kind = c.in_ok-kind.kind }) = record {
      proper = and_from _ _ (lt-ltb _ _ c.in_ok-thread.ensures.0) c.in_ok-kind.ensures.0;
      spelled = c.in_ok-thread.ensures.1 ∙ ap (λ (l : List ℕ). decimal c.in_ok-thread.thread ++ 32 ∷ l) c.in_ok-kind.ensures.1;
    } in (
      (λ e. subst (IsLineOf c.args.client.now.arrays c.args.line.now) (same_Some _ l e) read),
      (λ is. ap Some (same_label c.args.client.now c.args.line.now _ l read is)),
    )
