use Rattle.std.proofs.Common.{◌≡◌, ◌++◌, ◌∷◌, ◌/◌, [], List, ℕ, ap, refl, ◌∙◌, sym, append_assoc, arith}
use Rattle.tso_state.specs.Actors.{thread_of}
use Rattle.tso_code.proofs.EndCodes.{small_actor, large_actor}
use Rattle.tso_code.proofs.end.ActorCode.write.Goals as goal

pub returns-then-high-eq0 : goal.returns-then-high-eq0
returns-then-high-eq0 c = c.in_ok-push.ensures.items ∙ ap (λ (bytes : List ℕ). c.args.out.now.items ++ bytes) (sym (small_actor c.args.self.now c.low_bits-low.result (c.thread.result / 64) c.low_bits-low.ensures (ap (λ (n : ℕ). n / 64) c.thread.ensures) c.if-high-eq0.true))

pub returns : goal.returns
returns c =
    let all = large_actor c.args.self.now c.low_bits-low.result (c.thread.result / 64) c.low_bits-low.ensures (ap (λ (n : ℕ). n / 64) c.thread.ensures) (omega (arith, c.thread.ensures, c.thread.type_inv)) c.if-high-eq0.false in
    rw (c.in_ok-write_number.ensures, c.in_ok-push-2.ensures.items, all) (append_assoc c.args.out.now.items _ _)
