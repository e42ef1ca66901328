use Rattle.std.proofs.Common.{◌≡◌, ℕ, Some, slice_get, subst, List, refl}
use Rattle.tso_cells.specs.Intervals.{IsInside, alone}
use Rattle.tso_cells.specs.declared.interval.Interval.{Interval}
use Rattle.tso_line.specs.declared.instruction.CallKind.{CallKind}
use Rattle.tso_cells.proofs.Growth.{inside_trans}
use Rattle.tso_cells.proofs.StartLemmas.{client_arguments, wider}
use Rattle.tso_cells.specs.Starts.{HasArguments}
use Rattle.tso_cells.proofs.arguments.argument_interval.Goals as goal

pub returns : goal.returns
returns c =
    let some = c.with_threads-threads.result in
    let all = c.with_arguments.result in
    let from : IsInside (alone 0) some = subst (λ (i : Interval). IsInside i some) c.alone.ensures c.with_threads-threads.ensures.keeps in
    let P : List (List CallKind) → Type 0 = λ threads. (m : ℕ) (calls : List CallKind) → slice_get threads m ≡ Some calls → HasArguments some calls in
    record {
      zero = wider (alone 0) all 0 (inside_trans (alone 0) some all from c.with_arguments.ensures.keeps) refl;
      has = client_arguments c.args.client.now some all c.with_arguments.ensures.keeps (subst P c.as_slice.ensures c.with_threads-threads.ensures.has)
          (subst (λ (x : List CallKind). HasArguments all x) c.as_slice-2.ensures c.with_arguments.ensures.has);
    }
