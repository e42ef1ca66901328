use Rattle.std.proofs.Common.{◌≡◌, ◌∙◌, ◌++◌, ℕ, List, Some, ap, length, slice_get, subst, sym}
use Rattle.std.specs.List.{flat_map}
use Rattle.std.specs.Option.{option_copied}
use Rattle.tso_code.specs.Numbers.{number}
use Rattle.tso_write.proofs.SpellerLemmas.{state_behind}
use Rattle.tso_keys.specs.Numbers.{values_at}
use Rattle.tso_write.proofs.speller.Speller.put_state.Goals as goal

pub returns : goal.returns
returns c =
    let s = c.self.inside in
    let key = c.in-Some.key.now in
    let at : slice_get s.keys.now c.args.number ≡ Some key = sym c.get.ensures ∙ ap option_copied c.in-Some.is in
    let T : List ℕ → Type 0 = λ ns. c.put_list.new.out.items ≡ c.put_part.new.out.items ++ (number (length (values_at s.threads ns)) ++ flat_map (λ bytes. bytes) (values_at s.threads ns)) in
    rw (← c.self.view_is)
    (state_behind s.parts.now s.keys.now c.args.number key s.memories s.threads s.histories c.args.out.now.items c.put_part.new.out.items c.put_list.new.out.items c.put_part-2.new.out.items c.self.invariant at c.in_ok-put_part.ensures
    (subst T c.as_slice.ensures c.in_ok-put_list.ensures) c.in_ok-put_part-2.ensures)
