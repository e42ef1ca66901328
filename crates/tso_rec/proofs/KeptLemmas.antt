-- The records of a list that is kept by parts.
use Rattle.std.proofs.Common.{◌≡◌, ℕ, ◌<◌, List, length, get_or, Some, slice_get, option_map, refl, sym, ap, ◌∙◌, arith}
use Rattle.std.proofs.lemmas.List.{length-map}
use Rattle.std.proofs.lemmas.Option.{slice_get-map, slice_get_read}
use Rattle.std.specs.Ordering.{is_eq}
use Rattle.std.specs.Prelude.{◌↔◌, IsTrue}
use Rattle.std.specs.declared.cmp.Ordering.{Ordering}
use Rattle.tso_rec.specs.Keeping.{record_of, records_of}
use Rattle.tso_rec.specs.Records.{ends_of, states_of}
use Rattle.tso_rec.specs.declared.kept.Kept.{Kept}
use Rattle.tso_rec.specs.declared.record.Record.{Record}
use Rattle.tso_state.proofs.OrderLemmas.{state_alike}
use Rattle.tso_state.specs.Order.{state_cmp}
use Rattle.tso_state.specs.contracts.exact.states.StateExact.TheImpl.Laws.{exact-law as state_exact}
use Rattle.tso_state.specs.contracts.state.StateOrd.TheImpl.Laws as laws
use Rattle.tso_state.specs.declared.state.State.{State}

pub item_at : (records : List Record) (ks : List Kept) (k : ℕ) (x : Kept) → records ≡ records_of ks → k < length records → x ≡ get_or ks k x → slice_get records k ≡ Some (record_of x)
item_at records ks k x e lt is =
    let long : length records ≡ length ks = ap (λ (rs : List Record). length rs) e ∙ length-map ks record_of in
    let at = slice_get_read ks (length ks) k x refl (omega (arith, lt, long)) is in
    ap (λ (rs : List Record). slice_get rs k) e ∙ slice_get-map record_of ks k ∙ ap (option_map record_of) at

pub state_at : (records : List Record) (ks : List Kept) (k : ℕ) (x : Kept) → records ≡ records_of ks → k < length records → x ≡ get_or ks k x → slice_get (states_of records) k ≡ Some (record_of x).state
state_at records ks k x e lt is = slice_get-map (λ r. r.state) records k ∙ ap (option_map (λ r. r.state)) (item_at records ks k x e lt is)

pub end_at : (records : List Record) (ks : List Kept) (k : ℕ) (x : Kept) → records ≡ records_of ks → k < length records → x ≡ get_or ks k x → slice_get (ends_of records) k ≡ Some (record_of x).end
end_at records ks k x e lt is = slice_get-map (λ r. r.end) records k ∙ ap (option_map (λ r. r.end)) (item_at records ks k x e lt is)

-- states are ordered as equal only where they are the same
pub same_state : (s t : State) (o : Ordering) → o ≡ state_cmp s t → IsTrue (is_eq o) ↔ (s ≡ t)
same_state s t o e =
    let m = laws.matches_eq-law s t ∙ ap is_eq (state_alike s t ∙ sym e) in
    (λ h. (state_exact s t).0 (m ∙ h), λ k. sym m ∙ (state_exact s t).1 k)
