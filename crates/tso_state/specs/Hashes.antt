-- What states feed a hash.
use Rattle.std.specs.Prelude.{◌≡◌, IsTrue}
use Rattle.tso_state.specs.declared.state.State.{State}
use Rattle.tso_state.specs.contracts.state.StateHash.TheImpl as hash_impl
use Rattle.tso_state.specs.contracts.state.StatePartialEq.TheImpl as eq_impl

-- two states that `==` takes for equal make the same writes, in the same order
abbrev pub EqualStatesHashAlike : Type 0
EqualStatesHashAlike = (a b : State) → IsTrue (eq_impl.eq-value.it a b) → hash_impl.hash_input-value.it a ≡ hash_impl.hash_input-value.it b
