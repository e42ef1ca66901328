use Rattle.std.proofs.Common.{ap, ◌++◌, ◌∙◌, rules}
use Rattle.tso_scan.proofs.ScrollLemmas.{spelled_still, spelled_more}
use Rattle.tso_scan.proofs.scroll.Scroll.keep.Goals as goal

pub invariant_of-self-in_err-spelling : goal.invariant_of-self-in_err-spelling
invariant_of-self-in_err-spelling g c = spelled_still c.self.inside.parts c.add.new.self c.self.inside.spellings c.in_ok-number.ensures.extends c.self.invariant

pub invariant_of-self-in_err-push : goal.invariant_of-self-in_err-push
invariant_of-self-in_err-push g c = rw c.in_err-push.ensures.err (spelled_still c.self.inside.parts c.add.new.self c.self.inside.spellings c.in_ok-number.ensures.extends c.self.invariant)

pub invariant_of-self-in-Continue-branch-4 : goal.invariant_of-self-in-Continue-branch-4
invariant_of-self-in-Continue-branch-4 g c =
    rw c.in_ok-push.ensures.ok
    (spelled_more c.add.new.self c.self.inside.spellings c.in_ok-number.number c.in_ok-spelling.spelling (spelled_still c.self.inside.parts c.add.new.self c.self.inside.spellings c.in_ok-number.ensures.extends c.self.invariant) (search rules)
    (record { part = c.args.part; at = c.in_ok-number.ensures.number; reads = ap g.T.Code.read_at (c.in_ok-spelling.ensures ∙ c.as_slice.ensures.value ∙ c.in_ok-write.ensures ∙ ap (λ l. l ++ g.T.Code.spell c.args.part) c.new-bytes.ensures.items) ∙ c.requires }))

pub invariant_of-self-else-number-len : goal.invariant_of-self-else-number-len
invariant_of-self-else-number-len g c = spelled_still c.self.inside.parts c.add.new.self c.self.inside.spellings c.in_ok-number.ensures.extends c.self.invariant
