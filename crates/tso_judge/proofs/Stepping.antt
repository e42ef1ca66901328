-- Steps lead from states with words of 64 bits to such states.
use Rattle.std.proofs.Common.{◌≡◌, ℕ, zero, suc, ◌^◌, ◌==◌, if◌then◌else◌, nat_le, Bool, true, false, List, [], ◌∷◌, ◌++◌, length, map, Option, None, Some, slice_get, refl, subst}
use Rattle.std.specs.Prelude.{replicate, slice_index_or, slice_set}
use Rattle.std.specs.List.{list_all}
use Rattle.std.specs.Option.{option_and_then, option_map}
use Rattle.std.proofs.lemmas.Bool.{and_parts, ltb-true}
use Rattle.std.proofs.lemmas.Option.{same_Some}
use Rattle.tso_code.specs.Numbers.{IsWord}
use Rattle.tso_compact.specs.Laws.{initial_of}
use Rattle.tso_flow.specs.Accesses.{register_number}
use Rattle.tso_flow.specs.Calls.{as_thread, calls_of_client}
use Rattle.tso_flow.specs.declared.location.ProcedureKind.TheVariants as procedures
use Rattle.tso_line.specs.Proper.{are_calls, is_call, is_word}
use Rattle.tso_line.specs.declared.instruction.CallKind.{CallKind as Kind}
use Rattle.tso_line.specs.declared.instruction.CallKind.TheVariants as kinds
use Rattle.tso_line.specs.declared.instruction.Register.TheVariants.{Rdi}
use Rattle.tso_machine.specs.Activations.{Activation}
use Rattle.tso_machine.specs.Changes.{first_frame}
use Rattle.tso_machine.specs.Instructions.{next_action}
use Rattle.tso_machine.specs.Places.{first_memory}
use Rattle.tso_machine.specs.Programs.{calls_of, jump_count, program_of, start_of}
use Rattle.tso_model.specs.Programs.{Action, Answer, Barrier, CallKind, Cut, Fail, Load, Locked, Pop, Push, Ret, Silent, Store}
use Rattle.tso_model.specs.Reduce.{Steps}
use Rattle.tso_model.specs.States.{Answered, Began, Buffer, Called, CompactCore, CompactThread, Executing, Halted, Log, Resting, Same, State, answered, begun_call, begun_by, calls_in, latest, logged}
use Rattle.tso_model.specs.Steps.{Access, Actor, Drains, Exec, Move, Nothing, Read, Update, Write, action_move, call_move, core_move, drain_move, memory_after, move, perform, step, thread_of, when_empty, word_read}
use Rattle.tso_model.specs.Prologue.{call_if, next_call}
use Rattle.tso_prog.specs.Limits.{are_words, is_prologue, is_thread}
use Rattle.tso_prog.specs.Views.{call_view}
use Rattle.tso_prog.specs.declared.client.Array.{Array}
use Rattle.tso_prog.specs.declared.client.Client.{Client}
use Rattle.tso_judge.proofs.Instructions.{ActionHasWords, HasRegisters, next_words}
use Rattle.tso_judge.proofs.Lists.{Each, each_append, each_joined, each_map, each_more, each_none, each_or, each_passes, each_rest, each_set, each_so, zero_word}
use Rattle.tso_judge.specs.Words.{AnswerHasWord, AreRegisters, AreWords, BufferHasWords, CallHasWords, CallsHaveWords, CoreHasWords, HasWords, KindHasWord, ThreadHasWords, WordsStay}

-- ---- what a step does

-- what an access writes is a word, where it reads one
abbrev AccessHasWords : Access → Type 0
AccessHasWords Nothing = Unit {0}
AccessHasWords (Read p) = Unit {0}
AccessHasWords (Write p v) = IsWord v
AccessHasWords (Update p new) = (w : ℕ) → IsWord w → IsWord (new w)

abbrev LogHasWords : Log → Type 0
LogHasWords Same = Unit {0}
LogHasWords (Began k) = KindHasWord k
LogHasWords (Answered a) = AnswerHasWord a

record MoveHasWords (m : Move Activation) : Type 0 where
  access : AccessHasWords m.access
  after : (w : ℕ) → IsWord w → ThreadHasWords (m.after w)
  log : LogHasWords m.log

-- a move, if there is one
abbrev AnyMove : Option (Move Activation) → Type 0
AnyMove None = Unit {0}
AnyMove (Some m) = MoveHasWords m

thread : (core : CompactCore Activation) (b : Buffer) → CoreHasWords core → BufferHasWords b → ThreadHasWords (record { core = core; buffer = b })
thread core b h g = record { core = h; buffer = g }

latest_word : (b : Buffer) (p w : ℕ) → BufferHasWords b → IsWord w → IsWord (latest b p w)
latest_word [] p w h g = g
latest_word (e ∷ rest) p w h g = latest_word rest p _ (each_rest (λ (x : ℕ × ℕ). IsWord x.1) e rest h) (go (e.0 == p))
  where
    go : (b : Bool) → IsWord (if b then e.1 else w)
    go true = h zero e refl
    go false = g

stored : (b : Buffer) (p v : ℕ) → BufferHasWords b → IsWord v → BufferHasWords (b ++ (p, v) ∷ [])
stored b p v h g =
    each_append (λ (x : ℕ × ℕ). IsWord x.1) b ((p, v) ∷ []) h (each_more (λ (x : ℕ × ℕ). IsWord x.1) (p, v) [] g (each_none (λ (x : ℕ × ℕ). IsWord x.1)))

when_empty_words : (b : Buffer) (m : Move Activation) → MoveHasWords m → AnyMove (when_empty b m)
when_empty_words [] m h = h
when_empty_words (e ∷ rest) m h = tt

action_words : (b : Buffer) (x : Action Activation) → BufferHasWords b → ActionHasWords x → AnyMove (action_move b x)
action_words b (Silent g) h a = record { access = tt; after = λ w is. thread (Executing g) b a h; log = tt }
action_words b (Load p k) h a = record { access = tt; after = λ w is. thread (Executing (k (latest b p w))) b (a (latest b p w) (latest_word b p w h is)) h; log = tt }
action_words b (Store p v g) h a = record { access = tt; after = λ w is. thread (Executing g) (b ++ (p, v) ∷ []) a.1 (stored b p v h a.0); log = tt }
action_words b (Barrier g) h a = when_empty_words b _ (record { access = tt; after = λ w is. thread (Executing g) b a h; log = tt })
action_words b (Locked p new k) h a =
    when_empty_words b _ (record { access = λ w is. (a w is).0; after = λ w is. thread (Executing (k w)) b (a w is).1 h; log = tt })
action_words b (Ret x) h a = record { access = tt; after = λ w is. thread Resting b tt h; log = a }
action_words b (Fail n) h a = record { access = tt; after = λ w is. thread Halted b tt h; log = tt }
action_words b Cut h a = tt

-- ---- the first frame of a call

zeros : (n : ℕ) → AreWords (replicate n 0)
zeros zero = each_none IsWord
zeros (suc n) = each_more IsWord 0 (replicate n 0) zero_word (zeros n)

first_words : (v jumps : ℕ) → IsWord v → AreRegisters (first_frame v jumps).registers
first_words v jumps h = record { count = refl; words = each_set IsWord (replicate 15 0) (register_number Rdi) v (zeros 15) h }

start_words : (c : Client) (k : CallKind) → KindHasWord k → HasRegisters (start_of c k)
start_words c (Push v) h = first_words v (jump_count c procedures.Push) h
start_words c Pop h = first_words 0 (jump_count c procedures.Pop) zero_word

-- ---- the calls of a client

kind_word : (k : Kind) → is_call k ≡ true → KindHasWord (call_view k)
kind_word (kinds.Push w) h = ltb-true w (2 ^ 64) h
kind_word kinds.Pop h = tt

calls_words : (calls : List Kind) → list_all is_call calls ≡ true → Each KindHasWord (map call_view calls)
calls_words calls h = each_map KindHasWord call_view calls (each_so (λ k. is_call k ≡ true) (λ k. KindHasWord (call_view k)) calls kind_word (each_passes is_call calls h))

thread_calls : (calls : List Kind) → is_thread calls ≡ true → list_all is_call calls ≡ true
thread_calls calls h = (and_parts (nat_le 1 (length calls)) (list_all is_call calls) (and_parts (are_calls calls) (nat_le (length calls) 4) h).0).1

prologue_calls : (calls : List Kind) → is_prologue calls ≡ true → list_all is_call calls ≡ true
prologue_calls calls h = (and_parts (nat_le (length calls) 4) (list_all is_call calls) h).1

as_thread_words : (calls : List Kind) → list_all is_call calls ≡ true → Each (λ (l : List Kind). Each KindHasWord (map call_view l)) (as_thread calls)
as_thread_words [] h = each_none (λ (l : List Kind). Each KindHasWord (map call_view l))
as_thread_words (k ∷ ks) h =
    each_more (λ (l : List Kind). Each KindHasWord (map call_view l)) (k ∷ ks) [] (calls_words (k ∷ ks) h) (each_none (λ (l : List Kind). Each KindHasWord (map call_view l)))

all_calls : (c : Client) → Each (Each KindHasWord) (calls_of c)
all_calls c = each_map (Each KindHasWord) (map call_view) (calls_of_client c) (each_append (λ (l : List Kind). Each KindHasWord (map call_view l)) c.threads (as_thread c.prologue)
    (each_so (λ l. is_thread l ≡ true) (λ l. Each KindHasWord (map call_view l)) c.threads (λ l h. calls_words l (thread_calls l h)) (each_passes is_thread c.threads c.short_threads))
    (as_thread_words c.prologue (prologue_calls c.prologue c.short_prologue)))

-- ---- the first state

array_words : (a : Array) → are_words a.words ≡ true → AreWords a.words
array_words a h = each_so (λ w. is_word w ≡ true) IsWord a.words (λ w. ltb-true w (2 ^ 64)) (each_passes is_word a.words (and_parts (nat_le 1 (length a.words)) (list_all is_word a.words) h).1)

memory_words : (c : Client) → AreWords (first_memory c.arrays)
memory_words c = each_joined IsWord (λ (a : Array). a.words) c.arrays
    (each_so (λ (a : Array). are_words a.words ≡ true) (λ (a : Array). AreWords a.words) c.arrays array_words (each_passes (λ (a : Array). are_words a.words) c.arrays c.arrays_of_words))

no_calls : (ks : List (List CallKind)) (i : ℕ) → CallsHaveWords (calls_in (map (λ (l : List CallKind). []) ks) i)
no_calls [] i = each_none CallHasWords
no_calls (k ∷ ks) zero = each_none CallHasWords
no_calls (k ∷ ks) (suc i) = no_calls ks i

first_has_words : (c : Client) → HasWords (initial_of c)
first_has_words c = record {
  memory = memory_words c;
  threads = each_map ThreadHasWords (λ (l : List CallKind). record { core = Resting; buffer = [] }) (calls_of c)
      (λ n l e. thread Resting [] tt (each_none (λ (x : ℕ × ℕ). IsWord x.1)));
  history = no_calls (calls_of c);
}

-- ---- steps

call_if_words : (b : Bool) (o : Option CallKind) → ((k : CallKind) → o ≡ Some k → KindHasWord k) → (k : CallKind) → call_if b o ≡ Some k → KindHasWord k
call_if_words true o h k e = h k e
call_if_words false o h k e = absurd cc

next_call_words : (c : Client) (s : State Activation) (i : ℕ) (k : CallKind) → next_call (program_of c) s i ≡ Some k → KindHasWord k
next_call_words c s i k e =
    let calls : Each KindHasWord (slice_index_or (calls_of c) i []) = each_or (Each KindHasWord) (calls_of c) i [] (all_calls c) (each_none KindHasWord) in
    call_if_words _ (slice_get (slice_index_or (calls_of c) i []) (begun_by s i)) (λ l at. calls (begun_by s i) l at) k e

call_words : (c : Client) (b : Buffer) (o : Option CallKind) → BufferHasWords b → ((k : CallKind) → o ≡ Some k → KindHasWord k) → AnyMove (call_move (program_of c) b o)
call_words c b None h g = tt
call_words c b (Some k) h g = record { access = tt; after = λ w is. thread (Executing (start_of c k)) b (start_words c k (g k refl)) h; log = g k refl }

core_words : (c : Client) (o : Option CallKind) (core : CompactCore Activation) (b : Buffer) → CoreHasWords core → BufferHasWords b → ((k : CallKind) → o ≡ Some k → KindHasWord k)
    → AnyMove (core_move (program_of c) o core b)
core_words c o Resting b h g k = call_words c b o g k
core_words c o Halted b h g k = tt
core_words c o (Executing f) b h g k = action_words b (next_action c f) g (next_words c f h)

drain_words : (core : CompactCore Activation) (b : Buffer) → CoreHasWords core → BufferHasWords b → AnyMove (drain_move core b)
drain_words core [] h g = tt
drain_words core (e ∷ rest) h g = record { access = g zero e refl; after = λ w is. thread core rest h (each_rest (λ (x : ℕ × ℕ). IsWord x.1) e rest g); log = tt }

move_words : (c : Client) (s : State Activation) (a : Actor) → HasWords s → AnyMove (move (program_of c) s a)
move_words c s (Exec i) h = go (slice_get s.threads i) refl
  where
    go : (o : Option (CompactThread Activation)) → slice_get s.threads i ≡ o → AnyMove (option_and_then (λ t. core_move (program_of c) (next_call (program_of c) s i) t.core t.buffer) o)
    go None e = tt
    go (Some t) e = let known = h.threads i t e in core_words c (next_call (program_of c) s i) t.core t.buffer known.core known.buffer (next_call_words c s i)
move_words c s (Drains i) h = go (slice_get s.threads i) refl
  where
    go : (o : Option (CompactThread Activation)) → slice_get s.threads i ≡ o → AnyMove (option_and_then (λ t. drain_move t.core t.buffer) o)
    go None e = tt
    go (Some t) e = let known = h.threads i t e in drain_words t.core t.buffer known.core known.buffer

read_word : (m : List ℕ) (a : Access) → AreWords m → IsWord (word_read m a)
read_word m Nothing h = zero_word
read_word m (Read p) h = each_or IsWord m p 0 h zero_word
read_word m (Write p v) h = zero_word
read_word m (Update p new) h = each_or IsWord m p 0 h zero_word

memory_stays : (m : List ℕ) (a : Access) → AreWords m → AccessHasWords a → AreWords (memory_after m a)
memory_stays m Nothing h g = h
memory_stays m (Read p) h g = h
memory_stays m (Write p v) h g = each_set IsWord m p v h g
memory_stays m (Update p new) h g = each_set IsWord m p (new (slice_index_or m p 0)) h (g (slice_index_or m p 0) (each_or IsWord m p 0 h zero_word))

answered_words : (a : Answer) (calls : List Called) → CallsHaveWords calls → AnswerHasWord a → CallsHaveWords (answered a calls)
answered_words a [] h g = h
answered_words a (c ∷ []) h g = each_more CallHasWords _ [] (record { kind = (h zero c refl).kind; answer = g }) (each_none CallHasWords)
answered_words a (c ∷ d ∷ cs) h g = each_more CallHasWords c (answered a (d ∷ cs)) (h zero c refl) (answered_words a (d ∷ cs) (each_rest CallHasWords c (d ∷ cs) h) g)

-- the calls of each thread, where those of one are replaced
set_calls : (h : List (List Called)) (i j : ℕ) (calls : List Called) → CallsHaveWords calls → CallsHaveWords (calls_in h j) → CallsHaveWords (calls_in (slice_set h i calls) j)
set_calls [] i j calls new old = old
set_calls (x ∷ xs) zero zero calls new old = new
set_calls (x ∷ xs) zero (suc j) calls new old = old
set_calls (x ∷ xs) (suc i) zero calls new old = old
set_calls (x ∷ xs) (suc i) (suc j) calls new old = set_calls xs i j calls new old

logged_words : (h : List (List Called)) (i : ℕ) (log : Log) → ((j : ℕ) → CallsHaveWords (calls_in h j)) → LogHasWords log → (j : ℕ) → CallsHaveWords (calls_in (logged h i log) j)
logged_words h i Same old g j = old j
logged_words h i (Began k) old g j =
    set_calls h i j (calls_in h i ++ begun_call k h ∷ []) (each_append CallHasWords (calls_in h i) (begun_call k h ∷ []) (old i)
    (each_more CallHasWords (begun_call k h) [] (record { kind = g; answer = tt }) (each_none CallHasWords))) (old j)
logged_words h i (Answered a) old g j = set_calls h i j (answered a (calls_in h i)) (answered_words a (calls_in h i) (old i) g) (old j)

performed_words : (s : State Activation) (i : ℕ) (m : Move Activation) → HasWords s → MoveHasWords m → HasWords (perform s i m)
performed_words s i m h g = record {
  memory = memory_stays s.memory m.access h.memory g.access;
  threads = each_set ThreadHasWords s.threads i (m.after (word_read s.memory m.access)) h.threads (g.after (word_read s.memory m.access) (read_word s.memory m.access h.memory));
  history = logged_words s.history i m.log h.history g.log;
}

step_words : (c : Client) (s t : State Activation) (a : Actor) → HasWords s → step (program_of c) s a ≡ Some t → HasWords t
step_words c s t a h e = go (move (program_of c) s a) (move_words c s a h) e
  where
    go : (o : Option (Move Activation)) → AnyMove o → option_map (perform s (thread_of a)) o ≡ Some t → HasWords t
    go None g is = absurd cc
    go (Some m) g is = subst HasWords (same_Some (perform s (thread_of a) m) t is) (performed_words s (thread_of a) m h g)

all_steps : (c : Client) (actors : List Actor) (s t : State Activation) → HasWords s → Steps (step (program_of c)) s actors t → HasWords t
all_steps c [] s t h e = subst HasWords e h
all_steps c (a ∷ rest) s t h e = all_steps c rest e.0 t (step_words c s e.0 a h e.1) e.2

pub words_stay : (c : Client) → WordsStay c
words_stay c actors s steps = all_steps c actors (initial_of c) s (first_has_words c) steps
