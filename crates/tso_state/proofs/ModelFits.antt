-- The calls and the core of a thread fit each other exactly where those that the model sees do.
use Rattle.std.proofs.Common.{◌≡◌, ℕ, zero, suc, ◌+◌, ◌<◌, Bool, true, ◌&&◌, nat_lt, List, [], ◌∷◌, length, map, slice_get, Option, Some, None, refl, sym, ap, subst, arith}
use Rattle.std.specs.Option.{option_map}
use Rattle.std.proofs.lemmas.Bool.{and_parts, and_from, ltb-true}
use Rattle.std.proofs.lemmas.Bool.Decides.{Decides-ltb}
use Rattle.std.proofs.lemmas.Option.{none-some, same_Some}
use Rattle.tso_flow.specs.Calls.{kind_of}
use Rattle.tso_flow.specs.declared.location.ProcedureKind.{ProcedureKind}
use Rattle.tso_hist.specs.declared.call.Call.{Call}
use Rattle.tso_hist.specs.Views.{called_view}
use Rattle.tso_line.specs.declared.instruction.CallKind.{CallKind}
use Rattle.tso_line.specs.declared.instruction.CallKind.TheVariants.{Push, Pop}
use Rattle.tso_machine.specs.Activations.{activation}
use Rattle.tso_machine.specs.declared.buffer.Entry.{Entry}
use Rattle.tso_machine.specs.declared.frame.Frame.{Frame}
use Rattle.tso_machine.specs.Instructions.{instructions_of}
use Rattle.tso_machine.specs.Machines.{entry_view}
use Rattle.tso_machine.specs.Soundness.{are_within, bounds_in, is_sound, runs_procedure}
use Rattle.tso_model.specs.Programs as model
use Rattle.tso_model.specs.WellFormed.{AllReturned, CallsFit, HasReturned, IsInLast, Within}
use Rattle.tso_prog.specs.Views.{answer_view, call_view}
use Rattle.tso_prog.specs.declared.answer.Answer.{Answer}
use Rattle.tso_prog.specs.declared.answer.Answer.TheVariants.{Refused, Done, Value}
use Rattle.tso_prog.specs.declared.client.Client.{Client}
use Rattle.tso_state.specs.declared.state.Core.{Core}
use Rattle.tso_state.specs.declared.state.Core.TheVariants.{Idle, Running, Stopped}
use Rattle.tso_state.specs.Views.{core_view, running_procedure}
use Rattle.tso_state.specs.WellFormed.{IsAnswerTo, IsAnswered, IsFrameOf, LastFits, last_call}
use Rattle.tso_state.proofs.FitLemmas.{are_counts}

-- ---- options and kinds

pub option_map_some : {A B : Type 0} (f : A → B) (o : Option A) (y : B) → option_map f o ≡ Some y → (x : A) × (o ≡ Some x) × (f x ≡ y)
option_map_some f None y e = absurd (none-some y e)
option_map_some f (Some x) y e = (x, refl, same_Some (f x) y e)

option_map_none : {A B : Type 0} (f : A → B) (o : Option A) → option_map f o ≡ None → o ≡ None
option_map_none f None e = refl
option_map_none f (Some x) e = cc

pub same_kind : (k l : CallKind) → call_view k ≡ call_view l → k ≡ l
same_kind (Push v) (Push w) e = let same : v ≡ w = cc in ap Push same
same_kind (Push v) Pop e = cc
same_kind Pop (Push w) e = cc
same_kind Pop Pop e = refl

runs_own : (k : CallKind) → runs_procedure (call_view k) (kind_of k) ≡ true
runs_own (Push v) = refl
runs_own Pop = refl

-- ---- buffers

pub within_view : (size : ℕ) (es : List Entry) → ((n : ℕ) (e : Entry) → slice_get es n ≡ Some e → e.place < size) → Within size (map entry_view es)
within_view size [] below = tt
within_view size (e ∷ es) below = (below zero e refl, within_view size es (λ n x at. below (suc n) x at))

pub view_within : (size : ℕ) (es : List Entry) → Within size (map entry_view es) → (n : ℕ) (e : Entry) → slice_get es n ≡ Some e → e.place < size
view_within size [] below n e at = absurd (none-some e at)
view_within size (x ∷ es) below zero e at = let same : x ≡ e = same_Some x e at in subst (λ (y : Entry). y.place < size) same below.0
view_within size (x ∷ es) below (suc n) e at = view_within size es below.1 n e at

-- ---- answers

answer_to : (k : CallKind) (a : Answer) → IsAnswerTo k (Some a) → model.IsAnswerOf (call_view k) (answer_view a)
answer_to (Push v) Refused h = h
answer_to (Push v) Done h = h
answer_to (Push v) (Value w) h = h
answer_to Pop Refused h = h
answer_to Pop Done h = h
answer_to Pop (Value w) h = h

answer_from : (k : CallKind) (a : Answer) → model.IsAnswerOf (call_view k) (answer_view a) → IsAnswerTo k (Some a)
answer_from (Push v) Refused h = h
answer_from (Push v) Done h = h
answer_from (Push v) (Value w) h = h
answer_from Pop Refused h = h
answer_from Pop Done h = h
answer_from Pop (Value w) h = h

returned_to : (k : CallKind) (o : Option Answer) → IsAnswerTo k o → (a : model.Answer) × (option_map answer_view o ≡ Some a) × model.IsAnswerOf (call_view k) a
returned_to k None h = absurd h
returned_to k (Some a) h = (answer_view a, refl, answer_to k a h)

returned_from : (k : CallKind) (o : Option Answer) (a : model.Answer) → option_map answer_view o ≡ Some a → model.IsAnswerOf (call_view k) a → IsAnswerTo k o
returned_from k None a e h = absurd (none-some a e)
returned_from k (Some x) a e h = answer_from k x (subst (λ y. model.IsAnswerOf (call_view k) y) (sym (same_Some (answer_view x) a e)) h)

has_returned : (c : Call) → IsAnswered c → HasReturned (called_view c)
has_returned c h = returned_to c.kind c.answer h

is_answered : (c : Call) → HasReturned (called_view c) → IsAnswered c
is_answered c (a, e, h) = returned_from c.kind c.answer a e h

-- ---- lists of calls

-- all but the last are answered
abbrev pub Earlier : List Call → Type 0
Earlier cs = (k : ℕ) (call : Call) → slice_get cs k ≡ Some call → k + 1 < length cs → IsAnswered call

later : (c d : Call) (cs : List Call) → Earlier (c ∷ d ∷ cs) → Earlier (d ∷ cs)
later c d cs e k call at lt = e (suc k) call at (omega (arith, lt))

first : (c d : Call) (cs : List Call) → Earlier (c ∷ d ∷ cs) → IsAnswered c
first c d cs e = e zero c refl (omega arith)

earlier_more : (c d : Call) (cs : List Call) → IsAnswered c → Earlier (d ∷ cs) → Earlier (c ∷ d ∷ cs)
earlier_more c d cs h e zero call at lt = subst (λ x. IsAnswered x) (same_Some c call at) h
earlier_more c d cs h e (suc k) call at lt = e k call at (omega (arith, lt))

earlier_one : (c : Call) → Earlier (c ∷ [])
earlier_one c k call at lt = absurd (omega (arith, lt))

earlier_none : Earlier []
earlier_none k call at lt = absurd (omega (arith, lt))

all_returned : (cs : List Call) → Earlier cs → LastFits Idle (last_call cs) → AllReturned (map called_view cs)
all_returned [] e l = tt
all_returned (c ∷ []) e l = (has_returned c l, tt)
all_returned (c ∷ d ∷ cs) e l = (has_returned c (first c d cs e), all_returned (d ∷ cs) (later c d cs e) l)

all_answered : (cs : List Call) → AllReturned (map called_view cs) → Earlier cs × LastFits Idle (last_call cs)
all_answered [] h = (earlier_none, tt)
all_answered (c ∷ []) h = (earlier_one c, is_answered c h.0)
all_answered (c ∷ d ∷ cs) h = let (e, l) = all_answered (d ∷ cs) h.1 in (earlier_more c d cs (is_answered c h.0) e, l)

-- there is a last call, and it is pending and passes the test
pub record IsPendingLast (test : model.CallKind → Bool) (cs : List Call) : Type 0 where
  pub call : Call
  pub last : last_call cs ≡ Some call
  pub pending : call.answer ≡ None
  pub passes : test (call_view call.kind) ≡ true

in_last : (test : model.CallKind → Bool) (cs : List Call) → Earlier cs → IsPendingLast test cs → IsInLast test (map called_view cs)
in_last test [] e l = absurd (none-some l.call l.last)
in_last test (c ∷ []) e l =
    let same = sym (same_Some c l.call l.last) in
    (subst (λ (x : Call). option_map answer_view x.answer ≡ None) same (ap (option_map answer_view) l.pending), subst (λ (x : Call). test (call_view x.kind) ≡ true) same l.passes)
in_last test (c ∷ d ∷ cs) e l = (has_returned c (first c d cs e), in_last test (d ∷ cs) (later c d cs e) (record { call = l.call; last = l.last; pending = l.pending; passes = l.passes }))

from_in_last : (test : model.CallKind → Bool) (cs : List Call) → IsInLast test (map called_view cs) → Earlier cs × IsPendingLast test cs
from_in_last test [] h = absurd h
from_in_last test (c ∷ []) h = (earlier_one c, record { call = c; last = refl; pending = option_map_none answer_view c.answer h.0; passes = h.1 })
from_in_last test (c ∷ d ∷ cs) h =
    let (e, l) = from_in_last test (d ∷ cs) h.1 in
    (earlier_more c d cs (is_answered c h.0) e, record { call = l.call; last = l.last; pending = l.pending; passes = l.passes })

-- ---- cores

running_of_last : (cs : List Call) (c : Call) → last_call cs ≡ Some c → running_procedure cs ≡ kind_of c.kind
running_of_last [] c e = absurd (none-some c e)
running_of_last (b ∷ []) c e = ap (λ (x : Call). kind_of x.kind) (same_Some b c e)
running_of_last (b ∷ d ∷ cs) c e = running_of_last (d ∷ cs) c e

pending_running : (f : Frame) (o : Option Call) → LastFits (Running f) o → (c : Call) × (o ≡ Some c) × (c.answer ≡ None)
pending_running f None h = absurd h
pending_running f (Some c) h = (c, refl, h)

pending_stopped : (o : Option Call) → LastFits Stopped o → (c : Call) × (o ≡ Some c) × (c.answer ≡ None)
pending_stopped None h = absurd h
pending_stopped (Some c) h = (c, refl, h)

running_frame : (c : Client) (p : ProcedureKind) (f : Frame) → IsFrameOf c p f → (nat_lt f.pc (length (instructions_of c p)) && are_within f.taken (bounds_in c p)) ≡ true
running_frame c p f h =
    and_from _ _ ((Decides-ltb f.pc (length (instructions_of c p))).1 h.position) ((are_counts f.taken (bounds_in c p)).1 (record { width = h.counts; each = h.bounds }))

frame_running : (c : Client) (p : ProcedureKind) (f : Frame) → (nat_lt f.pc (length (instructions_of c p)) && are_within f.taken (bounds_in c p)) ≡ true → IsFrameOf c p f
frame_running c p f h =
    let (position, within) = and_parts _ _ h in
    let k = (are_counts f.taken (bounds_in c p)).0 within in
    record { position = ltb-true _ _ position; counts = k.width; bounds = k.each }

-- what the list says of a thread's core and calls
pub record AreFitting (c : Client) (core : Core) (cs : List Call) : Type 0 where
  pub earlier : Earlier cs
  pub last : LastFits core (last_call cs)
  pub frame : (f : Frame) → core ≡ Running f → IsFrameOf c (running_procedure cs) f

pub fits_view : (c : Client) (core : Core) (cs : List Call) → AreFitting c core cs → CallsFit (is_sound c) (core_view (running_procedure cs) core) (map called_view cs)
fits_view c Idle cs h = all_returned cs h.earlier h.last
fits_view c (Running f) cs h =
    let (call, is, pending) = pending_running f (last_call cs) h.last in
    let runs : runs_procedure (call_view call.kind) (running_procedure cs) ≡ true = rw (running_of_last cs call is) (runs_own call.kind) in
    in_last (λ k. is_sound c k (activation (running_procedure cs) f)) cs h.earlier
    (record { call = call; last = is; pending = pending; passes = and_from _ _ runs (running_frame c (running_procedure cs) f (h.frame f refl)) })
fits_view c Stopped cs h =
    let (call, is, pending) = pending_stopped (last_call cs) h.last in
    in_last (λ k. true) cs h.earlier (record { call = call; last = is; pending = pending; passes = refl })

pub view_fits : (c : Client) (core : Core) (cs : List Call) → CallsFit (is_sound c) (core_view (running_procedure cs) core) (map called_view cs) → AreFitting c core cs
view_fits c Idle cs h = let (e, l) = all_answered cs h in record { earlier = e; last = l; frame = λ f is. cc }
view_fits c (Running f) cs h =
    let (e, l) = from_in_last (λ k. is_sound c k (activation (running_procedure cs) f)) cs h in
    let (runs, fits) = and_parts _ _ l.passes in
    record {
      earlier = e;
      last = subst (λ o. LastFits (Running f) o) (sym l.last) l.pending;
      frame = λ g is. (let same : f ≡ g = cc in subst (λ x. IsFrameOf c (running_procedure cs) x) same (frame_running c (running_procedure cs) f fits));
    }
view_fits c Stopped cs h =
    let (e, l) = from_in_last (λ k. true) cs h in
    record { earlier = e; last = subst (λ o. LastFits Stopped o) (sym l.last) l.pending; frame = λ f is. cc }
