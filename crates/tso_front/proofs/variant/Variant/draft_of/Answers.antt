use Rattle.std.proofs.Common.{ℕ, List, length, map, ap, ◌∙◌, eqb, rules, tests, arith, Bor}
use Rattle.std.proofs.lemmas.List.{length-map}
use Rattle.std.proofs.lemmas.Iterator.Consumers.{YieldsList-end, YieldsList-turn}
use Rattle.std.proofs.lemmas.Iterator.Splits.{YieldsList-from_slice_split}
use Rattle.tso_front.specs.Replaced.{calls_of, head_of, text_of, without_end}
use Rattle.tso_front.proofs.LineLemmas.{head_is_short, lines_are_few}
use Rattle.tso_front.proofs.variant.Variant.draft_of.Goals as goal

pub put-requires : goal.put-requires
put-requires c =
    let turn = YieldsList-turn (YieldsList-from_slice_split _ (λ (b : ℕ). eqb b 10) (without_end c.args.text.now) (cc) (cc) (cc) (λ x b q k. search (rules, tests))) c.loop-line.yielded _ c.loop-line.yielded_by _ _ c.in-Some.line c.in-Some.is c.next.ensures.steps in
    let few = lines_are_few c.args.text.now in
    let short = head_is_short c.args.self.now (map (λ (line : Bor (List ℕ)). line.now) c.loop-line.yielded) in
    let same = length-map c.loop-line.yielded (λ (line : Bor (List ℕ)). line.now) in
    omega (arith, c.loop-line.invariant.lines, turn.0)

pub returns-clause-head : goal.returns-clause-head
returns-clause-head c =
    let all = YieldsList-end (YieldsList-from_slice_split _ (λ (b : ℕ). eqb b 10) (without_end c.args.text.now) (cc) (cc) (cc) (λ x b q k. search (rules, tests))) c.loop-line.yielded _ c.loop-line.yielded_by _ _ c.in-None.is c.next.ensures.steps in
    c.loop-line.invariant.head ∙ ap (λ lines. text_of (head_of c.args.self.now lines)) all.0

pub returns-clause-lines : goal.returns-clause-lines
returns-clause-lines c =
    let all = YieldsList-end (YieldsList-from_slice_split _ (λ (b : ℕ). eqb b 10) (without_end c.args.text.now) (cc) (cc) (cc) (λ x b q k. search (rules, tests))) c.loop-line.yielded _ c.loop-line.yielded_by _ _ c.in-None.is c.next.ensures.steps in
    c.loop-line.invariant.lines ∙ ap (λ lines. length (head_of c.args.self.now lines)) all.0

pub returns-clause-calls : goal.returns-clause-calls
returns-clause-calls c =
    let all = YieldsList-end (YieldsList-from_slice_split _ (λ (b : ℕ). eqb b 10) (without_end c.args.text.now) (cc) (cc) (cc) (λ x b q k. search (rules, tests))) c.loop-line.yielded _ c.loop-line.yielded_by _ _ c.in-None.is c.next.ensures.steps in
    c.loop-line.invariant.calls ∙ ap (λ lines. text_of (calls_of c.args.self.now lines)) all.0
