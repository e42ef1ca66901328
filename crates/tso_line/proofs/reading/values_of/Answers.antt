use Rattle.std.proofs.Common.{sym, ap, ◌∙◌, List, []}
use Rattle.tso_line.specs.declared.lexeme.Lexeme.{Lexeme}
use Rattle.tso_line.specs.Lexemes.{pieces}
use Rattle.tso_line.specs.Reading.{each, value_of}
use Rattle.tso_line.proofs.Each.{with_front, each_more, each_stop, each_end, passes_more, if_some_at}
use Rattle.tso_line.specs.Ranges.{or_out}
use Rattle.tso_line.specs.Proper.{is_word}
use Rattle.tso_line.proofs.reading.values_of.Goals as goal

pub returns-in_default-value_of-clause-exact : goal.returns-in_default-value_of-clause-exact
returns-in_default-value_of-clause-exact c = sym (each_stop value_of c.loop-piece.values.items c.in-Some.piece.now (pieces c.in-Some.after.now) (each value_of (pieces c.args.lexemes.now)) (sym c.value_of.ensures.exact ∙ c.in_default-value_of.is) (ap (λ (ps : List (List Lexeme)). with_front c.loop-piece.values.items (each value_of ps)) (sym c.in-Some.ensures.some.0) ∙ c.loop-piece.invariant.exact))

pub loop-piece-preserved : goal.loop-piece-preserved
loop-piece-preserved c = record {
  exact = rw c.in_ok-push.ensures.items (each_more value_of c.loop-piece.values.items c.in-Some.piece.now (pieces c.in-Some.after.now) c.in-Some-value_of.value (each value_of (pieces c.args.lexemes.now)) (sym c.value_of.ensures.exact ∙ c.in-Some-value_of.is) (ap (λ (ps : List (List Lexeme)). with_front c.loop-piece.values.items (each value_of ps)) (sym c.in-Some.ensures.some.0) ∙ c.loop-piece.invariant.exact));
  passes = rw c.in_ok-push.ensures.items (passes_more (or_out is_word) c.loop-piece.values.items c.in-Some-value_of.value c.loop-piece.invariant.passes (if_some_at _ c.value_of.result c.in-Some-value_of.value c.in-Some-value_of.is c.value_of.ensures.word));
}

pub returns-in_default-value_of-2-clause-exact : goal.returns-in_default-value_of-2-clause-exact
returns-in_default-value_of-2-clause-exact c = sym (each_stop value_of c.loop-piece.values.items c.loop-piece.rest.now [] (each value_of (pieces c.args.lexemes.now)) (sym c.value_of-2.ensures.exact ∙ c.in_default-value_of-2.is) (ap (λ (ps : List (List Lexeme)). with_front c.loop-piece.values.items (each value_of ps)) (sym c.in_default.ensures.none) ∙ c.loop-piece.invariant.exact))

pub returns-clause-exact : goal.returns-clause-exact
returns-clause-exact c =
    rw c.in_ok-push-2.ensures.items (sym (each_end value_of _ (each value_of (pieces c.args.lexemes.now)) (each_more value_of c.loop-piece.values.items c.loop-piece.rest.now [] c.in-Some-value_of-2.value (each value_of (pieces c.args.lexemes.now)) (sym c.value_of-2.ensures.exact ∙ c.in-Some-value_of-2.is) (ap (λ (ps : List (List Lexeme)). with_front c.loop-piece.values.items (each value_of ps)) (sym c.in_default.ensures.none) ∙ c.loop-piece.invariant.exact))))
