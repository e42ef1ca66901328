use Rattle.std.proofs.Common.{◌≡◌, ◌∙◌, true, length}
use Rattle.std.specs.Prelude.{is_some}
use Rattle.tso_list.specs.Cuts.{start_at}
use Rattle.tso_list.proofs.Cutting.{rising_still, view_popped}
use Rattle.tso_list.proofs.paths.Paths.pop.Goals as goal

was : (c : goal.After-truncate) → is_some c.pop.result ≡ true
was c = rw c.if-is_none.false at c.is_none.ensures

len : (c : goal.After-truncate) → c.len.result ≡ length c.pop.new.self.items
len c = c.len.ensures ∙ c.pop.new.self.ok.0

at : (c : goal.After-truncate) → c.start_of-end.result ≡ start_at 0 c.pop.new.self.items c.len.result
at c = rw c.deref.ensures.value at c.start_of-end.ensures

pub invariant_of-self-2 : goal.invariant_of-self-2
invariant_of-self-2 c = rising_still _ _ _ _ _ _ _ c.self.invariant c.pop.ensures.items (was c) (len c) (at c) c.truncate.ensures.items

pub returns-clause-rest : goal.returns-clause-rest
returns-clause-rest c = rw (← c.self.view_is) (view_popped _ _ _ _ _ _ _ c.self.invariant c.pop.ensures.items (was c) (len c) (at c) c.truncate.ensures.items)
