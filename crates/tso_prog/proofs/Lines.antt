-- Reading lines one after the other.
use Rattle.std.proofs.Common.{◌≡◌, ℕ, List, [], ◌∷◌, ◌++◌, Result, Ok, Err, refl, sym, ap, ◌∙◌}
use Rattle.std.specs.List.{flat_map}
use Rattle.tso_text.specs.declared.token.Token.{Token}
use Rattle.tso_prog.specs.declared.fault.Fault.{Fault}
use Rattle.tso_prog.specs.declared.fault.ReadError.{ReadError}
use Rattle.tso_prog.specs.declared.fault.ReadError.TheVariants.{Refused, Memory}
use Rattle.tso_line.specs.Lexemes.{split_by}
use Rattle.tso_prog.specs.Contents.{Content}
use Rattle.tso_prog.specs.Faults.{fault_at}
use Rattle.tso_prog.specs.Program.{Fails, ◌>>=◌, next, Numbered, numbered, lines_of, ends_line, read_from}

pub bind_assoc : {A B C : Type 0} (r : Result A Fault) (f : A → Result B Fault) (g : B → Result C Fault) → ((r >>= f) >>= g) ≡ (r >>= λ x. f x >>= g)
bind_assoc (Ok x) f g = refl
bind_assoc (Err e) f g = refl

pub bind_same : {A B : Type 0} (r : Result A Fault) (f g : A → Result B Fault) → ((x : A) → f x ≡ g x) → (r >>= f) ≡ (r >>= g)
bind_same (Ok x) f g h = h x
bind_same (Err e) f g h = refl

pub read_append : (xs ys : List Numbered) (c : Content) → read_from c (xs ++ ys) ≡ (read_from c xs >>= λ d. read_from d ys)
unfolding read_from
read_append [] ys c = refl
read_append (x ∷ xs) ys c =
    bind_same (next c x (fault_at c x.line)) (λ d. read_from d (xs ++ ys)) (λ d. read_from d xs >>= λ e. read_from e ys) (λ d. read_append xs ys d)
    ∙ sym (bind_assoc (next c x (fault_at c x.line)) (λ d. read_from d xs) (λ d. read_from d ys))

-- the first line, and the lines behind it
parts : (source : List ℕ) (tokens line rest : List Token) (c : Content) → split_by ends_line tokens ≡ line ∷ split_by ends_line rest → read_from c (lines_of source tokens) ≡ (read_from c (numbered source line) >>= λ d. read_from d (lines_of source rest))
parts source tokens line rest c e = ap (λ (ls : List (List Token)). read_from c (flat_map (numbered source) ls)) e ∙ read_append (numbered source line) (lines_of source rest) c

pub line_more : (source : List ℕ) (tokens line rest : List Token) (c d : Content) (all : Result Content Fault) → split_by ends_line tokens ≡ line ∷ split_by ends_line rest → read_from c (numbered source line) ≡ Ok d → read_from c (lines_of source tokens) ≡ all → read_from d (lines_of source rest) ≡ all
line_more source tokens line rest c d all e read so_far = sym (ap (λ (r : Result Content Fault). r >>= λ d. read_from d (lines_of source rest)) read) ∙ sym (parts source tokens line rest c e) ∙ so_far

pub line_stop : (f : ReadError) (source : List ℕ) (tokens line rest : List Token) (c : Content) (all : Result Content Fault) → split_by ends_line tokens ≡ line ∷ split_by ends_line rest → Fails f (read_from c (numbered source line)) → read_from c (lines_of source tokens) ≡ all → Fails f all
line_stop Memory source tokens line rest c all e read so_far = tt
line_stop (Refused f) source tokens line rest c all e read so_far = sym so_far ∙ parts source tokens line rest c e ∙ ap (λ (r : Result Content Fault). r >>= λ d. read_from d (lines_of source rest)) read
