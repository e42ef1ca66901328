-- States of a region, as more of them are met.
use Rattle.std.proofs.Common.{◌≡◌, ◌∙◌, ℕ, ◌+◌, ◌<◌, inl, inr, Bool, true, false, List, [], length, get_or, Option, None, Some, slice_get, refl, sym, subst, arith}
use Rattle.std.specs.Prelude.{Err, IfSome, Ok, OnOk, Result, is_some}
use Rattle.std.proofs.lemmas.Option.{same_Some, slice_get_within, slice_get-get_or}
use Rattle.tso_choose.specs.Choosing.{IsChoice}
use Rattle.tso_choose.specs.Closures.{has_bit}
use Rattle.tso_choose.specs.Sets.{actor_at}
use Rattle.tso_compact.specs.Plans.{IsStep}
use Rattle.tso_flow.specs.Faults.{HasNoFault}
use Rattle.tso_foot.specs.declared.table.Table.{Table}
use Rattle.tso_parts.proofs.Marked.{of_longer, old_item}
use Rattle.tso_parts.specs.Numbers.{Extends, grown}
use Rattle.tso_prog.specs.declared.client.Client.{Client}
use Rattle.tso_regions.specs.declared.halt.Halt.{Halt}
use Rattle.tso_regions.specs.Regions.{AreSound, IsDomain, IsFollowing, IsParcel, IsSound}
use Rattle.tso_search.proofs.SearchLemmas.{IsNewState, chosen_followed, done_stays, followed_on, good_with, kept_at, met_on, new_is_next, stays_stays}
use Rattle.tso_search.specs.Goodness.{IsGood}
use Rattle.tso_search.specs.Marking.{IsMarkedToo}
use Rattle.tso_search.specs.Reached.{AllMet, IsMet}
use Rattle.tso_search.specs.BySteps.{AreDone, AreFollowed, IsDone, IsFollowed, any_steps}
use Rattle.tso_search.specs.declared.ground.Ground.TheVariants.{Steps}
use Rattle.tso_search.specs.Searched.{IsGoodAt}
use Rattle.tso_state.specs.declared.actor.Actor.{Actor}
use Rattle.tso_state.specs.declared.state.State.{State}
use Rattle.tso_store.specs.Sheets.{Sheet}

-- ---- results

pub on_ok : {X E A B : Type 0} (r : Result X E) → OnOk r A → (A → B) → OnOk r B
on_ok (Ok x) a f = f a
on_ok (Err e) a f = tt

true-false : (x : Bool) → x ≡ true → x ≡ false → ⊥
true-false true e f = let clash : true ≡ false = f in cc
true-false false e f = let clash : false ≡ true = e in cc

pub there_still : (old new : List State) (n : ℕ) → Extends old new → n < length old → n < length new
there_still old new n stays lt =
    let s : State = get_or old n (record { memory = []; threads = []; history = [] }) in
    slice_get_within new n s (stays n s (slice_get-get_or old n (record { memory = []; threads = []; history = [] }) lt))

-- ---- one step

pub met_as : (c : Client) (old new : List State) → AllMet c old → new ≡ old → AllMet c new
met_as c old new met same = subst (AllMet c) (sym same) met

-- a new state, to which a step has led
pub met_with : (c : Client) → HasNoFault c → (old new : List State) (n m : ℕ) (a : Actor) → IsNewState c any_steps old new n a m → AllMet c old → AllMet c new
met_with c sound old new n m a s met k x at =
    of_longer old s.to x k (subst (λ (xs : List State). slice_get xs k ≡ Some x) s.grown at) (λ before. met k x before)
    (λ last same. subst (IsMet c) same (met_on c sound any_steps s.from s.to a (met n s.from s.at) s.leads))

pub stays_with : (c : Client) (old new : List State) (n m : ℕ) (a : Actor) → IsNewState c any_steps old new n a m → Extends old new
stays_with c old new n m a s i x at = subst (λ (xs : List State). slice_get xs i ≡ Some x) (sym s.grown) (old_item old s.to x i at)

pub sound_with : (c : Client) → HasNoFault c → (old new : List State) (n m : ℕ) (a : Actor) → IsNewState c any_steps old new n a m → AreSound c old → IsGoodAt c new m → AreSound c new
sound_with c fault old new n m a s sound good = record { met = met_with c fault old new n m a s sound.met; good = good_with c any_steps old new n m a s sound.good good }

pub followed_with : (c : Client) (old new : List State) (n m : ℕ) (a : Actor) → IsNewState c any_steps old new n a m → IsFollowed c old new n a
followed_with c old new n m a s x at has =
    let k = new_is_next c any_steps old new n m a s in
    let same : k.from ≡ x = same_Some k.from x (sym k.at ∙ stays_with c old new n m a s n x at) in
    kept_at c new x k.to a m (subst (λ (y : State). IsStep c y a k.to) same k.leads) k.number

-- ---- the actors of a set, one after another

pub following_first : (c : Client) (old : Sheet) (n set : ℕ) → old.client ≡ c → AreSound c old.states → IsFollowing c old old n set 0
following_first c old n set same sound = record { client = same; sound = sound; stays = λ i x at. at; followed = λ k lt bit. absurd (omega (arith, lt)) }

pub following_on : (c : Client) (old mid next new : Sheet) (n set k : ℕ) (a : Actor) → IsFollowing c old mid n set k → next.client ≡ mid.client → AreSound c next.states → Extends mid.states next.states
    → a ≡ actor_at k → IsFollowed c mid.states next.states n a → new ≡ next → IsFollowing c old new n set (k + 1)
following_on c old mid next new n set k a f client sound stays actor one same =
    let r : IsFollowing c old next n set (k + 1) = record {
      client = client ∙ f.client;
      sound = sound;
      stays = stays_stays old.states mid.states next.states f.stays stays;
      followed = followed_on c any_steps old.states mid.states next.states n set k f.stays stays f.followed (λ bit. subst (IsFollowed c mid.states next.states n) actor one);
    } in
    subst (λ (s : Sheet). IsFollowing c old s n set (k + 1)) (sym same) r

pub following_past : (c : Client) (old mid new : Sheet) (n set k : ℕ) → IsFollowing c old mid n set k → has_bit set k ≡ false → new ≡ mid → IsFollowing c old new n set (k + 1)
following_past c old mid new n set k f off same =
    let r : IsFollowing c old mid n set (k + 1) = record {
      client = f.client;
      sound = f.sound;
      stays = f.stays;
      followed = followed_on c any_steps old.states mid.states mid.states n set k f.stays (λ i x at. at) f.followed (λ bit. absurd (true-false (has_bit set k) bit off));
    } in
    subst (λ (s : Sheet). IsFollowing c old s n set (k + 1)) (sym same) r

-- ---- worked states

-- a state whose chosen steps were followed is worked
done_now : (c : Client) (t : Table) (old new : List State) (n set : ℕ) (s : State) → AreSound c old → Extends old new → slice_get old n ≡ Some s → IsChoice c t s set → AreFollowed c old new n set 10 → IsDone c t new n
done_now c t old new n set s sound stays here is followed = record {
  state = s;
  at = stays n s here;
  worked = record {
    kept = record { set = set; chosen = is; moves = chosen_followed c t s set old new n (sound.met n s here).plausible.well_formed is here followed };
    unstopped = λ over. (sound.good n s here).unstopped;
    explained = λ over. (sound.good n s here).explained;
  };
}

-- one more is marked
pub done_with : (c : Client) (t : Table) (old new : List State) (marks marks' : List Bool) (n set : ℕ) → AreSound c old → AreDone c t old marks → Extends old new → n < length old
    → ((s : State) → slice_get old n ≡ Some s → IsChoice c t s set) → AreFollowed c old new n set 10 → IsMarkedToo marks marks' n → AreDone c t new marks'
done_with c t old new marks marks' n set sound done stays there chosen followed too k marked = elim ((too k).0 marked) [
  | inl same ↦ subst (IsDone c t new) (sym same) (done_now c t old new n set s sound stays here (chosen s here) followed)
  | inr before ↦ done_stays c (Steps t) old new marks stays done k before
]
  where
    s : State
    s = get_or old n (record { memory = []; threads = []; history = [] })

    here : slice_get old n ≡ Some s
    here = slice_get-get_or old n (record { memory = []; threads = []; history = [] }) there

-- ---- states that come from elsewhere

pub sound_more : (c : Client) (old new : List State) (s : State) (b : Bool) → AreSound c old → IsSound c s → new ≡ grown old s b → AreSound c new
sound_more c old new s false sound one is = subst (AreSound c) (sym is) sound
sound_more c old new s true sound one is = subst (AreSound c) (sym is) (record {
  met = λ n x at. of_longer old s x n at (λ e. sound.met n x e) (λ last same. subst (IsMet c) same one.met);
  good = λ n x at. of_longer old s x n at (λ e. sound.good n x e) (λ last same. subst (IsGood c) same one.good);
})

-- the same where the client is named anew
pub sound_more_of : (c d : Client) (old new : List State) (s : State) (b : Bool) → AreSound c old → IsSound c s → d ≡ c → new ≡ grown old s b → AreSound d new
sound_more_of c d old new s b sound one same is = subst (λ (x : Client). AreSound x new) (sym same) (sound_more c old new s b sound one is)

-- of a parcel
pub parcel_sound : (realm : Option Client) (store : Sheet) (n : ℕ) (o : Option State) → IsParcel realm store → o ≡ slice_get store.states n → IfSome o (λ s. (c : Client) → realm ≡ Some c → IsSound c s)
parcel_sound realm store n None parcel at = tt
parcel_sound realm store n (Some s) parcel at = λ c is.
    let same : store.client ≡ c = same_Some store.client c (sym parcel.client ∙ is) in
    subst (λ (x : Client). IsSound x s) same (record { met = parcel.sound.met n s (sym at); good = parcel.sound.good n s (sym at) })

-- of a store that some are taken from
pub sound_at : (c d : Client) (states : List State) (n : ℕ) (s : State) → AreSound c states → d ≡ c → slice_get states n ≡ Some s → IsSound d s
sound_at c d states n s sound same at = subst (λ (x : Client). IsSound x s) (sym same) (record { met = sound.met n s at; good = sound.good n s at })

-- whoever searches
pub met_for : (realm : Option Client) (c : Client) (states : List State) → realm ≡ Some c → AllMet c states → (d : Client) → realm ≡ Some d → AllMet d states
met_for realm c states is met d same = subst (λ (x : Client). AllMet x states) (same_Some c d (sym is ∙ same)) met

pub done_for : (realm : Option Client) (tables : Option Table) (c : Client) (t : Table) (states : List State) (marks : List Bool) → realm ≡ Some c → tables ≡ Some t → AreDone c t states marks
    → (d : Client) (u : Table) → realm ≡ Some d → tables ≡ Some u → AreDone d u states marks
done_for realm tables c t states marks is known done d u same also =
    let table : AreDone c u states marks = subst (λ (x : Table). AreDone c x states marks) (same_Some t u (sym known ∙ also)) done in
    subst (λ (x : Client). AreDone x u states marks) (same_Some c d (sym is ∙ same)) table

-- ---- whole regions

pub none_by : (o : Option Halt) (r : Bool) → r ≡ is_some o → r ≡ false → o ≡ None
none_by None r e f = refl
none_by (Some h) r e f = absurd (let clash : true ≡ false = sym e ∙ f in cc)

pub region_sound : (client : Option Client) (table : Option Table) (c : Client) (t : Table) (store : Sheet) (marks : List Bool) (halt : Option Halt) → IsDomain client table c t store marks halt → halt ≡ None → AreSound store.client store.states
region_sound client table c t store marks halt d none = subst (λ (x : Client). AreSound x store.states) (sym d.store_is) (record { met = d.explored.met; good = d.explored.good none })

-- more states have come
pub region_more : (client : Option Client) (table : Option Table) (c : Client) (t : Table) (old new : Sheet) (marks : List Bool) (halt after : Option Halt) → IsDomain client table c t old marks halt → new.client ≡ old.client
    → AreSound new.client new.states → Extends old.states new.states → IsDomain client table c t new marks after
region_more client table c t old new marks halt after d same sound stays =
    let is : new.client ≡ c = same ∙ d.store_is in
    let here : AreSound c new.states = subst (λ (x : Client). AreSound x new.states) is sound in
    record {
      client_is = d.client_is;
      table_is = d.table_is;
      store_is = is;
      explored = record { met = here.met; done = done_stays c (Steps t) old.states new.states marks stays d.explored.done; good = λ none. here.good };
    }
