use Rattle.std.proofs.Common.{◌≡◌, ℕ, List, sym, subst}
use Rattle.std.specs.String.{string_bytes}
use Rattle.tso_prog.specs.Client.{client}
use Rattle.tso_print.proofs.Joins.{client_joins}
use Rattle.tso_print.specs.Denotes.{Denotes}
use Rattle.tso_print.specs.Layout.{printed}
use Rattle.tso_print.proofs.Denoted.{printed_denotes, client_is_sound}
use Rattle.tso_print.proofs.client.print.Goals as goal

pub returns : goal.returns
returns c =
    let arrays = rw c.as_slice-arrays.ensures at c.in_ok-push_arrays.ensures in
    let push = rw c.as_slice-arrays.ensures at c.in_ok-push_procedure.ensures in
    let pop = rw c.as_slice-arrays.ensures at c.in_ok-push_procedure-2.ensures in
    let prologue = rw c.as_slice.ensures at c.in_ok-push_prologue.ensures in
    let threads = rw c.as_slice-2.ensures at c.in_ok-push_threads.ensures in
    let exact : string_bytes c.push_threads.new.text ≡ printed (client c.args.program.now) =
    client_joins (client c.args.program.now) _ _ _ _ _ _ _ c.new-text.ensures.bytes c.in_ok-push_head.ensures arrays push pop prologue threads in
    record { denotes = subst (λ (text : List ℕ). Denotes text (client c.args.program.now)) (sym exact) (printed_denotes (client c.args.program.now) (client_is_sound c.args.program.now)); exact = exact }
