-- The program of a client covers that of each client that it covers.
use Rattle.std.proofs.Common.{◌≡◌, ℕ, ◌+◌, ◌-◌, ◌<◌, ◌≤◌, List, [], ◌∷◌, ◌++◌, map, length, slice_index_or, refl, sym, ◌∙◌, ap, arith, length-append, Some, inr}
use Rattle.std.proofs.Math.Decide.{dec_lt}
use Rattle.std.proofs.Math.ListN.{get_or-map}
use Rattle.std.proofs.lemmas.List.{append-nil, length-map, map-append, get_or_append_left, get_or-append-add}
use Rattle.std.proofs.lemmas.Option.{none-some, same_Some}
use Rattle.tso_client.specs.Covering.{CoversBy, IsBeginning, IsPrologueOf}
use Rattle.tso_flow.specs.Calls.{as_thread}
use Rattle.tso_line.specs.declared.instruction.CallKind.{CallKind}
use Rattle.tso_machine.specs.Programs.{program_of, prologue_number}
use Rattle.tso_model.specs.Programs as model
use Rattle.tso_prog.specs.declared.client.Client.{Client}
use Rattle.tso_prog.specs.Views.{call_view}
use Rattle.tso_client.specs.Clients.{AreAlike, ArePlaced, ProgramsFollow}
use Rattle.tso_client.proofs.SameCode.{same_next, same_start}

-- A NUMBER AMONG TWO LISTS

picked : (ℕ → ℕ) → (n k i : ℕ) → Dec (i < n) → ℕ
picked e n k i (yes lt) = e i
picked e n k i (no n') = k + (i - n)

-- a number below n goes by e, those from n on to those from k on
onto : (ℕ → ℕ) → ℕ → ℕ → ℕ → ℕ
onto e n k i = picked e n k i (dec_lt i n)

onto_first : (e : ℕ → ℕ) (n k i : ℕ) → i < n → onto e n k i ≡ e i
unfolding onto picked
onto_first e n k i lt = go (dec_lt i n)
  where
    go : (d : Dec (i < n)) → picked e n k i d ≡ e i
    go (yes a) = refl
    go (no b) = absurd (b lt)

onto_rest : (e : ℕ → ℕ) (n k i : ℕ) → n ≤ i → onto e n k i ≡ k + (i - n)
unfolding onto picked
onto_rest e n k i le = go (dec_lt i n)
  where
    go : (d : Dec (i < n)) → picked e n k i d ≡ k + (i - n)
    go (yes a) = absurd (omega arith)
    go (no b) = refl

-- the calls of both, as the model's
abbrev all_calls : List (List CallKind) → List (List CallKind) → List (List model.CallKind)
all_calls ts ps = map (map call_view) (ts ++ ps)

length_all : (ts ps : List (List CallKind)) → length (all_calls ts ps) ≡ length ts + length ps
length_all ts ps = length-map (ts ++ ps) (map call_view) ∙ length-append ts ps

calls_first : (ts ps : List (List CallKind)) (i : ℕ) → i < length ts → slice_index_or (all_calls ts ps) i [] ≡ map call_view (slice_index_or ts i [])
calls_first ts ps i lt = get_or-map (map call_view) (ts ++ ps) i [] ∙ ap (map call_view) (get_or_append_left ts ps [] i lt)

calls_rest : (ts ps : List (List CallKind)) (i : ℕ) → slice_index_or (all_calls ts ps) (length ts + i) [] ≡ map call_view (slice_index_or ps i [])
calls_rest ts ps i = get_or-map (map call_view) (ts ++ ps) (length ts + i) [] ∙ ap (map call_view) (get_or-append-add ts ps i [])

module _ (ts us ps : List (List CallKind)) (e : ℕ → ℕ)
    (within : (i : ℕ) → i < length ts → e i < length us)
    (apart : (i j : ℕ) → i < length ts → j < length ts → e i ≡ e j → i ≡ j)
    (begins : (i : ℕ) → i < length ts → IsBeginning (slice_index_or ts i []) (slice_index_or us (e i) [])) where
  abbrev to : ℕ → ℕ
  to = onto e (length ts) (length us)

  rest_goes : (i : ℕ) → length ts ≤ i → to i ≡ length us + (i - length ts)
  rest_goes i le = onto_rest e (length ts) (length us) i le

  first_goes : (i : ℕ) → i < length ts → to i ≡ e i
  first_goes i lt = onto_first e (length ts) (length us) i lt

  all_within : (i : ℕ) → i < length (all_calls ts ps) → to i < length (all_calls us ps)
  all_within i lt = go (dec_lt i (length ts))
    where
      go : Dec (i < length ts) → to i < length (all_calls us ps)
      go (yes a) = let w = within i a in omega (arith, w, first_goes i a, length_all us ps)
      go (no b) = omega (arith, b, lt, rest_goes i (omega (arith, b)), length_all us ps, length_all ts ps)

  all_apart : (i j : ℕ) → to i ≡ to j → i ≡ j
  all_apart i j q = go (dec_lt i (length ts)) (dec_lt j (length ts))
    where
      go : Dec (i < length ts) → Dec (j < length ts) → i ≡ j
      go (yes a) (yes b) = apart i j a b (sym (first_goes i a) ∙ (q ∙ first_goes j b))
      go (yes a) (no b) = let w = within i a in absurd (omega (arith, q, w, b, first_goes i a, rest_goes j (omega (arith, b))))
      go (no a) (yes b) = let w = within j b in absurd (omega (arith, q, w, a, first_goes j b, rest_goes i (omega (arith, a))))
      go (no a) (no b) = omega (arith, q, a, b, rest_goes i (omega (arith, a)), rest_goes j (omega (arith, b)))

  -- behind the threads the calls are the same
  same_rest : (i : ℕ) → length ts ≤ i → slice_index_or (all_calls us ps) (to i) [] ≡ slice_index_or (all_calls ts ps) i []
  same_rest i le =
      let sum : length ts + (i - length ts) ≡ i = omega (arith, le) in
      ap (λ k. slice_index_or (all_calls us ps) k []) (rest_goes i le)
      ∙ (calls_rest us ps (i - length ts) ∙ (sym (calls_rest ts ps (i - length ts)) ∙ ap (λ k. slice_index_or (all_calls ts ps) k []) sum))

  all_begin : (i : ℕ) → IsBeginning (slice_index_or (all_calls ts ps) i []) (slice_index_or (all_calls us ps) (to i) [])
  all_begin i = go (dec_lt i (length ts))
    where
      go : Dec (i < length ts) → IsBeginning (slice_index_or (all_calls ts ps) i []) (slice_index_or (all_calls us ps) (to i) [])
      go (yes a) =
          let (more, is) = begins i a in (
            map call_view more,
            ap (λ k. slice_index_or (all_calls us ps) k []) (first_goes i a)
                ∙ (calls_first us ps (e i) (within i a)
                ∙ (ap (map call_view) is ∙ (map-append call_view (slice_index_or ts i []) more ∙ ap (λ r. r ++ map call_view more) (sym (calls_first ts ps i a))))),
          )
      go (no b) = ([], same_rest i (omega (arith, b)) ∙ sym (append-nil _))

module _ (small large : Client) (s : AreAlike small large) (e : ℕ → ℕ) (p : ArePlaced e small large) where
  -- the threads' numbers, and the prologue's
  abbrev goes : ℕ → ℕ
  goes = to small.threads large.threads (as_thread small.prologue) e p.within p.apart p.calls

  prologue_goes : (q : List CallKind) → small.prologue ≡ q → (j : ℕ) → prologue_number q (length large.threads) ≡ Some j → IsPrologueOf goes (program_of small) (program_of large) j
  prologue_goes [] is j at = absurd (none-some j at)
  prologue_goes (k ∷ ks) is j at =
      let here : length large.threads ≡ j = same_Some (length large.threads) j at in
      let there : goes (length small.threads) ≡ j =
      rest_goes small.threads large.threads (as_thread small.prologue) e p.within p.apart p.calls (length small.threads) (omega arith) ∙ omega (arith, here) in
      let count : length (as_thread small.prologue) ≡ 1 = rw is refl in
      let x = s.prologue in
      record {
        thread = length small.threads;
        named = rw is refl;
        within = omega (arith, count, length_all small.threads (as_thread small.prologue));
        goes = there;
        calls =
            rw (x, ← there) (same_rest small.threads large.threads (as_thread small.prologue) e p.within p.apart p.calls (length small.threads) (omega arith));
      }

  programs : CoversBy goes (program_of small) (program_of large)
  programs = let x = s.prologue in record {
    next = same_next small large s;
    start = same_start small large s;
    within = λ i lt. rw x (all_within small.threads large.threads (as_thread small.prologue) e p.within p.apart p.calls i lt);
    apart = λ i j a b q. all_apart small.threads large.threads (as_thread small.prologue) e p.within p.apart p.calls i j q;
    calls = λ i lt. rw x (all_begin small.threads large.threads (as_thread small.prologue) e p.within p.apart p.calls i);
    prologue = λ j is. inr (prologue_goes small.prologue refl j (rw x at is));
  }

pub programs_follow : ProgramsFollow
programs_follow small large (s, (e, p)) = (goes small large s e p, programs small large s e p)
