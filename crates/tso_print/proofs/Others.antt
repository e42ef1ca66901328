-- What each printed line says that is no instruction.
use Rattle.std.proofs.Common.{◌≡◌, ℕ, suc, ◌-◌, ◌^◌, ◌<◌, ◌≤◌, Bool, true, false, cond, List, [], ◌∷◌, ◌++◌, length, replicate, map, Some, refl, sym, ap, ◌∙◌, eq-eqb, arith}
use Rattle.std.specs.Prelude.{◌==◌, nat_le}
use Rattle.std.specs.List.{list_all}
use Rattle.std.proofs.lemmas.Bool.{and_parts, leb-true, le-leb, eqb-true}
use Rattle.std.proofs.lemmas.List.{length-map}
use Rattle.tso_line.specs.Ranges.{all_within}
use Rattle.tso_line.specs.declared.lexeme.Ranged.{Ranged}
use Rattle.tso_line.specs.declared.lexeme.Ranged.TheVariants.{Within}
use Rattle.tso_line.specs.declared.instruction.Mode.{Mode}
use Rattle.tso_line.specs.declared.instruction.Mode.TheVariants as modes
use Rattle.tso_line.specs.declared.instruction.CallKind.{CallKind}
use Rattle.tso_line.specs.declared.instruction.CallKind.TheVariants as calls
use Rattle.tso_line.specs.declared.lexeme.Directive.TheVariants as directives
use Rattle.tso_line.specs.declared.lexeme.Lexeme.{Lexeme}
use Rattle.tso_line.specs.declared.lexeme.Lexeme.TheVariants as lexemes
use Rattle.tso_line.specs.declared.line.Kind.{Kind}
use Rattle.tso_line.specs.declared.line.Kind.TheVariants as kinds
use Rattle.tso_line.specs.Lexemes.{is_comma, split_by}
use Rattle.tso_line.specs.Lines.{Name, Line, capacity, mode, array, push, pop, end, label, before, thread}
use Rattle.tso_line.specs.Proper.{is_word, is_call}
use Rattle.tso_line.specs.Reading.{value_of, call_of, each, array_line, values_or_none, calls_of, calls_line, directive_line as read_directive}
use Rattle.tso_prog.specs.declared.client.Array.{Array}
use Rattle.tso_print.specs.Signs.{directive, name, number, colon, comma, equals}
use Rattle.tso_print.specs.Pieces.{Piece, tight, spaced}
use Rattle.tso_print.specs.Layout.{label_name, mode_sign, more_values, value_pieces, array_pieces, call_pieces, more_calls, calls_pieces, thread_pieces}
use Rattle.tso_print.proofs.Tokens.{sign_end}
use Rattle.tso_print.proofs.Placing.{lexemes_at, Says}

-- ---- the head

pub capacity_says : (n : ℕ) → 1 ≤ n → n ≤ 16 → Says (tight (directive directives.Capacity) ∷ spaced (number n) ∷ []) (capacity n)
unfolding read_directive
capacity_says n low high source at h =
    let a : nat_le 1 n ≡ true = le-leb 1 n low in
    let b : nat_le n 16 ≡ true = le-leb n 16 high in
    rw (a, b) refl

pub mode_says : (m : Mode) → Says (tight (directive directives.Mode) ∷ spaced (mode_sign m) ∷ []) (mode m)
unfolding read_directive
mode_says modes.Strict source at h = refl
mode_says modes.Weak source at h = refl

-- ---- procedures

pub push_says : Says (tight (directive directives.Push) ∷ []) push
unfolding read_directive
push_says source at h = refl

pub pop_says : Says (tight (directive directives.Pop) ∷ []) pop
unfolding read_directive
pop_says source at h = refl

pub end_says : Says (tight (directive directives.End) ∷ []) end
unfolding read_directive
end_says source at h = refl

pub label_says : (place : ℕ) → Says (tight (name (label_name place)) ∷ tight colon ∷ []) (label (label_name place))
label_says place source at h = ap label h.0

-- ---- arrays

word_fits : (w : ℕ) → is_word w ≡ true → nat_le w (2 ^ 64 - 1) ≡ true
word_fits w e = let lt : w < 2 ^ 64 = leb-true (suc w) (2 ^ 64) e in le-leb w (2 ^ 64 - 1) (omega arith)

-- one value in each piece
values_cut : (v : ℕ) (vs : List ℕ) (at : ℕ) → split_by is_comma (lexemes.Number (Within v) ∷ lexemes_at at (more_values vs)) ≡ map (λ (w : ℕ). lexemes.Number (Within w) ∷ []) (v ∷ vs)
unfolding split_by
values_cut v [] at = refl
values_cut v (w ∷ ws) at = rw (values_cut w ws (sign_end (sign_end at (tight comma)) (spaced (number w)))) refl

each_value : (vs : List ℕ) → list_all is_word vs ≡ true → each value_of (map (λ (w : ℕ). lexemes.Number (Within w) ∷ []) vs) ≡ Some (map (λ (w : ℕ). Within w) vs)
unfolding each
each_value [] e = refl
each_value (v ∷ vs) e =
    let a = and_parts (is_word v) (list_all is_word vs) e in
    rw (word_fits v a.0, each_value vs a.1) refl

all_values : {A : Type 0} (vs : List A) → all_within (map (λ (w : A). Within w) vs) ≡ Some vs
unfolding all_within
all_values [] = refl
all_values (v ∷ vs) = rw (all_values vs) refl

zeros : (ws : List ℕ) → list_all (λ (w : ℕ). w == 0) ws ≡ true → replicate (length ws) 0 ≡ ws
zeros [] e = refl
zeros (w ∷ ws) e =
    let a = and_parts (w == 0) (list_all (λ (v : ℕ). v == 0) ws) e in
    (λ i. sym (eqb-true w 0 a.0) i ∷ zeros ws a.1 i)

values_said : (n : Name) (v : ℕ) (vs : List ℕ) (at : ℕ) → length (v ∷ vs) ≤ 256 → list_all is_word (v ∷ vs) ≡ true
    → values_or_none n (Within (length (v ∷ vs))) (each value_of (split_by is_comma (lexemes.Number (Within v) ∷ lexemes_at at (more_values vs)))) ≡ array n (v ∷ vs)
values_said n v vs at few all =
    let len : length (map (λ (w : ℕ). Within w) (v ∷ vs)) ≡ length (v ∷ vs) = length-map (v ∷ vs) (λ (w : ℕ). Within w) in
    let same : (length (v ∷ vs) == length (v ∷ vs)) ≡ true = eq-eqb (length (v ∷ vs)) (length (v ∷ vs)) refl in
    let most : nat_le (length (v ∷ vs)) 256 ≡ true = le-leb (length (v ∷ vs)) 256 few in
    ap (λ (ps : List (List Lexeme)). values_or_none n (Within (length (v ∷ vs))) (each value_of ps)) (values_cut v vs at)
    ∙ ap (values_or_none n (Within (length (v ∷ vs)))) (each_value (v ∷ vs) all)
    ∙ counted_said n (map (λ (w : ℕ). Within w) (v ∷ vs)) (v ∷ vs) len same most (all_values (v ∷ vs))
  where
    counted_said : (n : Name) (values : List (Ranged ℕ)) (ws : List ℕ) → length values ≡ length ws → (length ws == length ws) ≡ true → nat_le (length ws) 256 ≡ true → all_within values ≡ Some ws → values_or_none n (Within (length ws)) (Some values) ≡ array n ws
    counted_said n values ws len same most all = rw (len, same, most, all) refl

zero_line : (n : Name) (v : ℕ) (vs : List ℕ) → length (v ∷ vs) ≤ 256 → list_all (λ (w : ℕ). w == 0) (v ∷ vs) ≡ true → array_line n (Within (length (v ∷ vs))) ≡ array n (v ∷ vs)
zero_line n v vs few none =
    let low : nat_le 1 (length (v ∷ vs)) ≡ true = le-leb 1 (length (v ∷ vs)) (omega arith) in
    let high : nat_le (length (v ∷ vs)) 256 ≡ true = le-leb (length (v ∷ vs)) 256 few in
    rw (low, high) (ap (array n) (zeros (v ∷ vs) none))

abbrev array_with : Name → ℕ → List Piece → List Piece
array_with n len values = tight (directive directives.Array) ∷ spaced (name n) ∷ spaced (number len) ∷ values

-- where the second value of an array stands
abbrev second_at : Name → ℕ → ℕ → ℕ → ℕ
second_at n len v at = sign_end (sign_end (sign_end (sign_end (sign_end at (tight (directive directives.Array))) (spaced (name n))) (spaced (number len))) (spaced equals)) (spaced (number v))

pieces_say : (b : Bool) (n : Name) (v : ℕ) (vs : List ℕ) → list_all (λ (w : ℕ). w == 0) (v ∷ vs) ≡ b → length (v ∷ vs) ≤ 256 → list_all is_word (v ∷ vs) ≡ true
    → Says (array_with n (length (v ∷ vs)) (cond b [] (spaced equals ∷ spaced (number v) ∷ more_values vs))) (array n (v ∷ vs))
unfolding read_directive
pieces_say true n v vs none few all source at h = ap (λ (m : Name). array_line m (Within (length (v ∷ vs)))) h.1.0 ∙ zero_line n v vs few none
pieces_say false n v vs none few all source at h =
    ap (λ (m : Name). values_or_none m (Within (length (v ∷ vs))) (each value_of (split_by is_comma (lexemes.Number (Within v) ∷ lexemes_at (second_at n (length (v ∷ vs)) v at) (more_values vs))))) h.1.0
    ∙ values_said n v vs (second_at n (length (v ∷ vs)) v at) few all

words_say : (n : Name) (ws : List ℕ) → 1 ≤ length ws → length ws ≤ 256 → list_all is_word ws ≡ true → Says (array_with n (length ws) (value_pieces ws)) (array n ws)
words_say n [] some few all = absurd (omega (arith, some))
words_say n (v ∷ vs) some few all = pieces_say (list_all (λ (w : ℕ). w == 0) (v ∷ vs)) n v vs refl few all

pub array_says : (a : Array) → 1 ≤ length a.words → length a.words ≤ 256 → list_all is_word a.words ≡ true → Says (array_pieces a) (array a.name a.words)
array_says a some few all = words_say a.name a.words some few all

-- ---- calls

each_call : (c : CallKind) (cs : List CallKind) (at : ℕ) → list_all is_call (c ∷ cs) ≡ true → each call_of (split_by is_comma (lexemes_at at (call_pieces c ++ more_calls cs))) ≡ Some (map (λ (d : CallKind). Within d) (c ∷ cs))
unfolding split_by each
each_call (calls.Push v) [] at e = let a = and_parts (is_word v) true e in rw (word_fits v a.0) refl
each_call calls.Pop [] at e = refl
each_call (calls.Push v) (d ∷ ds) at e =
    let a = and_parts (is_word v) (list_all is_call (d ∷ ds)) e in
    rw (each_call d ds _ a.1, word_fits v a.0) refl
each_call calls.Pop (d ∷ ds) at e = rw (each_call d ds _ e) refl

calls_said : (kind : Kind) (make : List CallKind → Line) (c : CallKind) (cs : List CallKind) (at : ℕ) → list_all is_call (c ∷ cs) ≡ true → calls_line kind make (calls_of (lexemes_at at (call_pieces c ++ more_calls cs))) ≡ make (c ∷ cs)
calls_said kind make c cs at e = rw (each_call c cs at e) (rw (all_values (c ∷ cs)) refl)

pub before_says : (c : CallKind) (cs : List CallKind) → list_all is_call (c ∷ cs) ≡ true → Says (tight (directive directives.Before) ∷ calls_pieces (c ∷ cs)) (before (c ∷ cs))
unfolding read_directive
before_says c cs e source at h = calls_said kinds.Before before c cs _ e

pub thread_says : (c : CallKind) (cs : List CallKind) → list_all is_call (c ∷ cs) ≡ true → Says (thread_pieces (c ∷ cs)) (thread (c ∷ cs))
unfolding read_directive
thread_says c cs e source at h = calls_said kinds.Thread thread c cs _ e
