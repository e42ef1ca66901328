use Rattle.std.proofs.Common.{sym, ap, ◌∙◌, List, []}
use Rattle.tso_line.specs.declared.lexeme.Lexeme.{Lexeme}
use Rattle.tso_line.specs.Lexemes.{pieces}
use Rattle.tso_line.specs.Reading.{each, call_of}
use Rattle.tso_line.proofs.Each.{with_front, each_more, each_stop, each_end, passes_more, if_some_at}
use Rattle.tso_line.specs.Ranges.{or_out}
use Rattle.tso_line.specs.Proper.{is_call}
use Rattle.tso_line.proofs.reading.calls_between.Goals as goal

pub returns-in_default-call_of-clause-exact : goal.returns-in_default-call_of-clause-exact
returns-in_default-call_of-clause-exact c = sym (each_stop call_of c.loop-piece.calls.items c.in-Some.piece.now (pieces c.in-Some.after.now) (each call_of (pieces c.args.lexemes.now)) (sym c.call_of.ensures.exact ∙ c.in_default-call_of.is) (ap (λ (ps : List (List Lexeme)). with_front c.loop-piece.calls.items (each call_of ps)) (sym c.in-Some.ensures.some.0) ∙ c.loop-piece.invariant.exact))

pub loop-piece-preserved : goal.loop-piece-preserved
loop-piece-preserved c = record {
  exact = rw c.in_ok-push.ensures.items (each_more call_of c.loop-piece.calls.items c.in-Some.piece.now (pieces c.in-Some.after.now) c.in-Some-call_of.call (each call_of (pieces c.args.lexemes.now)) (sym c.call_of.ensures.exact ∙ c.in-Some-call_of.is) (ap (λ (ps : List (List Lexeme)). with_front c.loop-piece.calls.items (each call_of ps)) (sym c.in-Some.ensures.some.0) ∙ c.loop-piece.invariant.exact));
  passes = rw c.in_ok-push.ensures.items (passes_more (or_out is_call) c.loop-piece.calls.items c.in-Some-call_of.call c.loop-piece.invariant.passes (if_some_at _ c.call_of.result c.in-Some-call_of.call c.in-Some-call_of.is c.call_of.ensures.call));
}

pub returns-in_default-call_of-2-clause-exact : goal.returns-in_default-call_of-2-clause-exact
returns-in_default-call_of-2-clause-exact c = sym (each_stop call_of c.loop-piece.calls.items c.loop-piece.rest.now [] (each call_of (pieces c.args.lexemes.now)) (sym c.call_of-2.ensures.exact ∙ c.in_default-call_of-2.is) (ap (λ (ps : List (List Lexeme)). with_front c.loop-piece.calls.items (each call_of ps)) (sym c.in_default.ensures.none) ∙ c.loop-piece.invariant.exact))

pub returns-clause-exact : goal.returns-clause-exact
returns-clause-exact c =
    rw c.in_ok-push-2.ensures.items (sym (each_end call_of _ (each call_of (pieces c.args.lexemes.now)) (each_more call_of c.loop-piece.calls.items c.loop-piece.rest.now [] c.in-Some-call_of-2.call (each call_of (pieces c.args.lexemes.now)) (sym c.call_of-2.ensures.exact ∙ c.in-Some-call_of-2.is) (ap (λ (ps : List (List Lexeme)). with_front c.loop-piece.calls.items (each call_of ps)) (sym c.in_default.ensures.none) ∙ c.loop-piece.invariant.exact))))
