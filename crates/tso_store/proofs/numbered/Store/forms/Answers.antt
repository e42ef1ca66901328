use Rattle.tso_store.proofs.numbered.Store.forms.Goals as goal

pub forms_of-requires : goal.forms_of-requires
forms_of-requires c = c.self.invariant.kept

pub returns : goal.returns
returns c = rw (← c.self.view_is) c.forms_of.ensures
