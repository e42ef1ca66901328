-- A leaf that ends behind its count.
use Rattle.std.proofs.Common.{◌≡◌, ℕ, ◌^◌, ◌<◌, List, [], Some, sym, ap, ◌∙◌}
use Rattle.std.proofs.lemmas.List.{append-nil}
use Rattle.tso_code.proofs.NumberCode.{word_code}
use Rattle.tso_code.specs.Numbers.{number, number_at}

pub count_is : (bytes : List ℕ) (n count : ℕ) (rest : List ℕ) → Some (count, rest) ≡ number_at bytes → bytes ≡ number n → n < 2 ^ 64 → (count ≡ n) × (rest ≡ [])
count_is bytes n count rest e spelled lt =
    let f : number_at bytes ≡ Some (n, []) = ap number_at (spelled ∙ sym (append-nil (number n))) ∙ word_code.again n [] lt in
    let both : (count, rest) ≡ (n, []) = cc in
    (ap (λ (x : ℕ × List ℕ). x.0) both, ap (λ (x : ℕ × List ℕ). x.1) both)
