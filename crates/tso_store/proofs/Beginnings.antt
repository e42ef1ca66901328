-- The state in which a call has begun, by its key.
use Rattle.std.proofs.Common.{◌≡◌, ◌∙◌, ℕ, zero, suc, ◌<◌, List, [], ◌∷◌, length, Some, None, refl, sym, ap, slice_get, slice_set, slice_index_or}
use Rattle.std.proofs.lemmas.List.{length-set}
use Rattle.tso_compact.specs.Plans.{thread_in}
use Rattle.tso_compact.specs.declared.motion.Motion.TheVariants as the
use Rattle.tso_line.specs.declared.instruction.CallKind.{CallKind}
use Rattle.tso_machine.specs.declared.frame.Frame.{Frame}
use Rattle.tso_model.specs.States.{Began}
use Rattle.tso_move.proofs.BeginLemmas.{begun_view}
use Rattle.tso_move.specs.Begun.{AreBegun, begun_thread}
use Rattle.tso_prog.specs.Views.{call_view}
use Rattle.tso_prog.specs.declared.client.Client.{Client}
use Rattle.tso_state.specs.declared.state.State.{State}
use Rattle.tso_state.specs.declared.state.Thread.{Thread}
use Rattle.tso_keys.specs.Keys.{Grows, IsKept, state_at}
use Rattle.tso_keys.specs.Numbers.{AreNumbersOf}
use Rattle.tso_keys.specs.declared.key.Key.{Key}
use Rattle.tso_keys.specs.declared.parts.Parts.{Parts}
use Rattle.tso_keys.proofs.Rows.{more_numbers, row_set}
use Rattle.tso_store.specs.Arriving.{IsBegunOf, IsOpenedThread}
use Rattle.tso_store.specs.Stepping.{IsLogged}
use Rattle.tso_store.proofs.Performed.{history_length, thread_at}

-- the value with the number at a place
row_there : {X : Type 0} (pool : List X) (ns : List ℕ) (xs : List X) (i d : ℕ) (x : X) → AreNumbersOf pool ns xs → slice_get xs i ≡ Some x → slice_get pool (slice_index_or ns i d) ≡ Some x
row_there pool [] [] i d x are at = absurd (let h : None ≡ Some x = at in cc)
row_there pool [] (z ∷ xs) i d x are at = absurd are
row_there pool (n ∷ ns) [] i d x are at = absurd (let h : None ≡ Some x = at in cc)
row_there pool (n ∷ ns) (z ∷ xs) zero d x are at = are.0 ∙ at
row_there pool (n ∷ ns) (z ∷ xs) (suc i) d x are at = row_there pool ns xs i d x are.1 at

pub begun : (c : Client) (old new : Parts) (k : Key) (i n nh nt : ℕ) (kind : CallKind) (frame : Frame) → IsKept c old k → i < length (state_at old k).threads → Grows old new
    → n ≡ slice_index_or k.threads i 4294967295
    → IsOpenedThread old.threads new.threads n frame nt
    → IsLogged (state_at old k).history i (the.Begin kind 0) new.histories nh
    → IsBegunOf old k i kind frame new (record { memory = k.memory; history = nh; threads = slice_set k.threads i nt })
begun c old new k i n nh nt kind frame kept there grows place opened log =
    let s : State = state_at old k in
    let t : Thread = thread_in s i in
    let u : Thread = begun_thread s i frame in
    let here = thread_at s i there in
    let own : slice_get old.threads n ≡ Some t = ap (slice_get old.threads) place ∙ row_there old.threads k.threads s.threads i 4294967295 t kept.key.threads here in
    let parts : AreBegun s i kind frame s.memory (slice_set s.threads i u) log.history = record {
      inside = there;
      lists = kept.fits.lists ∙ sym kept.fits.threads;
      memory_is = refl;
      threads_are = refl;
      history_is = log.is;
    } in
    record {
      state = record { memory = s.memory; threads = slice_set s.threads i u; history = log.history };
      is = begun_view s i kind frame s.memory (slice_set s.threads i u) log.history parts;
      key = record {
        memory = grows.memories k.memory s.memory kept.key.memory;
        history = log.at;
        threads = row_set new.threads k.threads s.threads i nt u t (more_numbers old.threads new.threads k.threads s.threads grows.threads kept.key.threads) here (opened t own);
        wide = length-set k.threads i nt ∙ kept.key.wide;
      };
      fits = λ c' f. record {
        threads = length-set s.threads i u ∙ f.threads;
        lists = history_length s.history log.history i (Began (call_view kind)) log.is ∙ f.lists;
      };
    }
