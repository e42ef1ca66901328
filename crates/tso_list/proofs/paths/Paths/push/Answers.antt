use Rattle.std.proofs.Common.{◌≡◌, ◌∙◌, ◌++◌, ◌∷◌, []}
use Rattle.tso_list.proofs.Cutting.{still_rising, view_pushed}
use Rattle.tso_list.proofs.paths.Paths.push.Goals as goal

bytes : (c : goal.After-push_reserved) → c.extend_from_slice.new.self.items ≡ c.self.inside.bytes.items ++ c.args.list.now
bytes c = rw c.in_ok-extend_from_slice.was at c.extend_from_slice.ensures.items

ends : (c : goal.After-push_reserved) → c.push_reserved.new.self.items ≡ c.self.inside.ends.items ++ c.len.result ∷ []
ends c = rw c.reserve.ensures.items at c.push_reserved.ensures.items

pub invariant_of-self-2 : goal.invariant_of-self-2
invariant_of-self-2 c = still_rising _ _ _ _ _ _ c.self.invariant (bytes c) (c.len.ensures ∙ c.extend_from_slice.new.self.ok.0) (ends c)

pub returns-clause-ok : goal.returns-clause-ok
returns-clause-ok c = rw (← c.self.view_is) (view_pushed _ _ _ _ _ _ c.self.invariant (bytes c) (c.len.ensures ∙ c.extend_from_slice.new.self.ok.0) (ends c))
