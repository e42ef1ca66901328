-- What is known stays known.
use Rattle.std.proofs.Common.{◌≡◌, ◌⊎◌, inl, inr, ℕ, zero, suc, List, [], ◌∷◌, ◌++◌, length, Option, Some, None, refl, sym, slice_get, slice_set}
use Rattle.std.specs.Prelude.{IfSome}
use Rattle.tso_compact.specs.declared.motion.Motion.{Motion}
use Rattle.tso_compact.specs.declared.motion.Motion.TheVariants as the
use Rattle.tso_flow.specs.declared.location.ProcedureKind.{ProcedureKind}
use Rattle.tso_flow.specs.declared.location.ProcedureKind.TheVariants as procedures
use Rattle.tso_machine.specs.declared.buffer.Entry.{Entry}
use Rattle.tso_parts.specs.Numbers.{Extends}
use Rattle.tso_prog.specs.declared.client.Client.{Client}
use Rattle.tso_state.specs.declared.state.Thread.{Thread}
use Rattle.tso_store.specs.declared.known.Known.{Known}
use Rattle.tso_store.specs.declared.known.Run.{Run}
use Rattle.tso_store.specs.declared.known.Run.TheVariants as runs
use Rattle.tso_keys.proofs.Lists.{at_end}
use Rattle.tso_store.specs.Remembered.{AreKnown, FitsAt, HasNext, IsKnown, IsNextMotion, IsOwn, IsOwnMotion, IsRun, IsRunKnown, IsDrained, IsLeft, with_run}

nothing_known : (c : Client) (ts : List Thread) (n : ℕ) → IsKnown c ts n (record { push = runs.Unknown; pop = runs.Unknown; drained = None })
nothing_known c ts n = record { push = tt; pop = tt; drained = tt }

known_end : (c : Client) (ts : List Thread) (ds : List Known) (n : ℕ) (d e : Known) → AreKnown c ts ds → IsKnown c ts n e → (slice_get ds n ≡ Some d) ⊎ ((n ≡ length ds) × (d ≡ e)) → IsKnown c ts n d
known_end c ts ds n d e all one (inl h) = all n d h
known_end c ts ds n d e all one (inr h) = rw h.1 one

pub known_more : (c : Client) (ts : List Thread) (ds : List Known) → AreKnown c ts ds → AreKnown c ts (ds ++ record { push = runs.Unknown; pop = runs.Unknown; drained = None } ∷ [])
known_more c ts ds all n d h = known_end c ts ds n d _ all (nothing_known c ts n) (at_end ds _ n d h)

at_set : (ds : List Known) (m : ℕ) (e : Known) (n : ℕ) (d : Known) → slice_get (slice_set ds m e) n ≡ Some d → (slice_get ds n ≡ Some d) ⊎ ((n ≡ m) × (d ≡ e))
at_set [] m e n d h = inl h
at_set (x ∷ ds) zero e zero d h = let k : e ≡ d = cc in inr (refl, sym k)
at_set (x ∷ ds) zero e (suc n) d h = inl h
at_set (x ∷ ds) (suc m) e zero d h = inl h
at_set (x ∷ ds) (suc m) e (suc n) d h = up (at_set ds m e n d h)
  where
    up : (slice_get ds n ≡ Some d) ⊎ ((n ≡ m) × (d ≡ e)) → (slice_get ds n ≡ Some d) ⊎ ((suc n ≡ suc m) × (d ≡ e))
    up (inl k) = inl k
    up (inr k) = inr (let q : suc n ≡ suc m = cc (k.0) in q, k.1)

known_at : (c : Client) (ts : List Thread) (ds : List Known) (m n : ℕ) (d e : Known) → AreKnown c ts ds → IsKnown c ts m e → (slice_get ds n ≡ Some d) ⊎ ((n ≡ m) × (d ≡ e)) → IsKnown c ts n d
known_at c ts ds m n d e all one (inl h) = all n d h
known_at c ts ds m n d e all one (inr h) = rw (h.0, h.1) one

known_set : (c : Client) (ts : List Thread) (ds : List Known) (m : ℕ) (e : Known) → AreKnown c ts ds → IsKnown c ts m e → AreKnown c ts (slice_set ds m e)
known_set c ts ds m e all one n d h = known_at c ts ds m n d e all one (at_set ds m e n d h)

one_run : (c : Client) (name : ProcedureKind) (ts : List Thread) (n : ℕ) (r : Run) (d : Known) → IsKnown c ts n d → IsRunKnown c name ts n r → IsKnown c ts n (with_run d name r)
one_run c procedures.Push ts n r d old run = record { push = run; pop = old.pop; drained = old.drained }
one_run c procedures.Pop ts n r d old run = record { push = old.push; pop = run; drained = old.drained }

pub set_run : (c : Client) (name : ProcedureKind) (ts : List Thread) (ds : List Known) (n : ℕ) (r : Run) (d e : Known) → AreKnown c ts ds → slice_get ds n ≡ Some d → e ≡ with_run d name r → IsRunKnown c name ts n r → AreKnown c ts (slice_set ds n e)
set_run c name ts ds n r d e all at is run = rw is (known_set c ts ds n (with_run d name r) all (one_run c name ts n r d (all n d at) run))

pub set_drained : (c : Client) (ts : List Thread) (ds : List Known) (n m : ℕ) (d : Known) → AreKnown c ts ds → slice_get ds n ≡ Some d → IsDrained ts n m → AreKnown c ts (slice_set ds n (record { push = d.push; pop = d.pop; drained = Some m }))
set_drained c ts ds n m d all at drained =
    let old = all n d at in
    known_set c ts ds n (record { push = d.push; pop = d.pop; drained = Some m }) all (record { push = old.push; pop = old.pop; drained = drained })

run_grows : (c : Client) (name : ProcedureKind) (old new : List Thread) (n : ℕ) (r : Run) → Extends old new → IsRunKnown c name old n r → IsRunKnown c name new n r
run_grows c name old new n runs.Unknown ext k = tt
run_grows c name old new n (runs.Leaves m) ext k = record { from = k.from; to = k.to; from_is = ext n k.from k.from_is; to_is = ext m k.to k.to_is; runs = k.runs }
run_grows c name old new n (runs.Does m) ext k = record { from = k.from; from_is = ext n k.from k.from_is; next = k.next }

drained_grows : (old new : List Thread) (n : ℕ) (o : Option ℕ) → Extends old new → IfSome o (IsDrained old n) → IfSome o (IsDrained new n)
drained_grows old new n None ext r = tt
drained_grows old new n (Some m) ext r = record { from = r.from; from_is = ext n r.from r.from_is; to_is = ext m _ r.to_is }

pub known_grows : (c : Client) (old new : List Thread) (ds : List Known) → Extends old new → AreKnown c old ds → AreKnown c new ds
known_grows c old new ds ext all n d at =
    let k = all n d at in
    record {
      push = run_grows c procedures.Push old new n d.push ext k.push;
      pop = run_grows c procedures.Pop old new n d.pop ext k.pop;
      drained = drained_grows old new n d.drained ext k.drained;
    }

pub own_of : (c : Client) (name : ProcedureKind) (t : Thread) (m : Motion) → IsNextMotion c name t m → IsOwn m → IsOwnMotion c name t m
own_of c name t (the.Run patch) next own = record { next = next; access = refl; log = refl }
own_of c name t (the.Pass to) next own = record { next = next; access = refl; log = refl }
own_of c name t (the.Store entry to) next own = record { next = next; access = refl; log = refl }
own_of c name t (the.Stop fault) next own = record { next = next; access = refl; log = refl }
own_of c name t (the.Load place to then) next own = absurd own
own_of c name t (the.Locked place operation register to) next own = absurd own
own_of c name t (the.Begin kind jumps) next own = absurd own
own_of c name t (the.Return answer) next own = absurd own
own_of c name t (the.Drain entry) next own = absurd own

pub new_run : (c : Client) (name : ProcedureKind) (old new : List Thread) (n k : ℕ) (m : Motion) → Extends old new → HasNext c name old n m → IsOwn m → IsLeft old new n m 0 k → IsRun c name new n k
new_run c name old new n k m ext has own left = record {
  from = has.from;
  to = _;
  from_is = ext n has.from has.from_is;
  to_is = left has.from has.from_is;
  runs = record { motion = m; own = own_of c name has.from m has.next own; leaves = refl };
}

pub next_fits : (c : Client) (name : ProcedureKind) (ts : List Thread) (n : ℕ) (m : Motion) → HasNext c name ts n m → FitsAt ts n m
next_fits c name ts n m has t at =
    let both : Some t ≡ Some has.from = cc (at, has.from_is) in
    let same : t ≡ has.from = cc in
    rw same has.next.fits

pub new_drained : (old new : List Thread) (n k : ℕ) (e : Entry) → Extends old new → ((t : Thread) × (slice_get old n ≡ Some t)) → IsLeft old new n (the.Drain e) 0 k → IsDrained new n k
new_drained old new n k e ext own left = record { from = own.0; from_is = ext n own.0 own.1; to_is = left own.0 own.1 }
