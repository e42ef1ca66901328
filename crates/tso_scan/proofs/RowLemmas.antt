-- Rows of numbers, read one after the other.
use Rattle.std.proofs.Common.{◌≡◌, ℕ, ◌+◌, ◌-◌, ◌<◌, ◌≤◌, List, [], ◌∷◌, ◌++◌, length, Option, Some, None, refl, sym, ap, subst, ◌∙◌, arith, replicate, slice_set}
use Rattle.std.proofs.lemmas.List.{length-append, length-set}
use Rattle.tso_code.proofs.ItemLemmas.{goes_on, is_done, with_front}
use Rattle.tso_code.specs.Fields.{items_at, list_at}
use Rattle.tso_code.specs.Numbers.{Reading, number_at, ◌>>=◌}
use Rattle.tso_parts.specs.Numbers.{Extends}
use Rattle.tso_scan.specs.Scrolls.{AreReadAs, IsListReadAs, IsReadAs}
use Rattle.tso_scan.specs.declared.rows.Row.{Row}
use Rattle.tso_keys.proofs.Rows.{more_numbers, row_more}
use Rattle.tso_keys.specs.Numbers.{AreNumbersOf}

-- so many parts were read
pub record IsReadTo {X : Type 0} (r : Reading X) (old new : List X) (many done : ℕ) (ns bytes rest : List ℕ) : Type 0 where
  pub parts : List X
  pub count : length parts ≡ done
  pub numbers : AreNumbersOf new ns parts
  pub wide : length ns ≡ 5
  pub extends : Extends old new
  pub reads : with_front parts (items_at r (many - done) rest) ≡ items_at r many bytes

module _ {X : Type 0} {r : Reading X} where
  pub read_more : (old mid new : List X) (many done n : ℕ) (ns bytes rest after : List ℕ) → many ≤ 5 → done < many → IsReadTo r old mid many done ns bytes rest → IsReadAs r new n rest after → Extends mid new
      → IsReadTo r old new many (done + 1) (slice_set ns done n) bytes after
  read_more old mid new many done n ns bytes rest after few lt is one more = record {
    parts = is.parts ++ one.part ∷ [];
    count = length-append is.parts (one.part ∷ []) ∙ ap (λ k. k + 1) is.count;
    numbers = subst (λ k. AreNumbersOf new (slice_set ns k n) (is.parts ++ one.part ∷ [])) is.count
        (row_more new ns is.parts n one.part (more_numbers mid new ns is.parts more is.numbers) (let a = is.count in let b = is.wide in omega (arith, few, lt, a, b)) one.at);
    wide = length-set ns done n ∙ is.wide;
    extends = λ i x e. more i x (is.extends i x e);
    reads = goes_on r is.parts many done rest one.part after (items_at r many bytes) lt one.reads is.reads;
  }

  pub read_all : (old new : List X) (many done : ℕ) (row : Row) (bytes rest : List ℕ) → many ≤ done → done ≤ many → IsReadTo r old new many done row.numbers bytes rest → AreReadAs r new many row bytes rest × Extends old new
  read_all old new many done row bytes rest le ge is = (
    record {
      parts = is.parts;
      count = let a = is.count in omega (arith, le, ge, a);
      numbers = is.numbers;
      wide = is.wide;
      reads = is_done r is.parts many done rest (items_at r many bytes) le is.reads;
    },
    is.extends,
  )

  -- a list is its count, and then its items
  pub list_reads : (pool : List X) (many found : ℕ) (row : Row) (bytes rest after : List ℕ) → Some (found, rest) ≡ number_at bytes → found ≡ many → AreReadAs r pool many row rest after → IsListReadAs r pool many row bytes after
  unfolding list_at
  list_reads pool many found row bytes rest after number same is = record {
    parts = is.parts;
    count = is.count;
    numbers = is.numbers;
    wide = is.wide;
    reads = ap (λ (o : Option (ℕ × List ℕ)). o >>= λ n. items_at r n.0 n.1) (sym number) ∙ ap (λ k. items_at r k rest) same ∙ is.reads;
  }

no_front : {X : Type 0} (o : Option (List X × List ℕ)) → with_front [] o ≡ o
no_front None = refl
no_front (Some x) = refl

pub read_none : {X : Type 0} (r : Reading X) (pool : List X) (many : ℕ) (ns bytes : List ℕ) → ns ≡ replicate 5 4294967295 → IsReadTo r pool pool many 0 ns bytes bytes
read_none r pool many ns bytes none = record {
  parts = [];
  count = refl;
  numbers = subst (λ l. AreNumbersOf pool l []) (sym none) (refl, (refl, (refl, (refl, (refl, tt)))));
  wide = ap length none;
  extends = λ i x e. e;
  reads = no_front (items_at r (many - 0) bytes) ∙ ap (λ k. items_at r k bytes) (let e : many - 0 ≡ many = omega arith in e);
}
