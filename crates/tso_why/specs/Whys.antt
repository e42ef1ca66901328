-- Why the calls of a run have no order (Herlihy and Wing 1990): what can be said of them by the labels at which they begin and return.
use Rattle.std.specs.Prelude.{ℕ, ◌-◌, ◌==◌, ◌&&◌, ◌||◌, if◌then◌else◌, Bool, true, false, not, List, [], ◌∷◌, Option, Some, None, count_by, find, is_some, nat_lt, option_and_then, option_map}
use Rattle.std.specs.List.{list_all}
use Rattle.std.specs.Option.{option_or}
use Rattle.tso_line.specs.declared.instruction.CallKind.{CallKind}
use Rattle.tso_line.specs.declared.instruction.CallKind.TheVariants.{Push, Pop}
use Rattle.tso_line.specs.declared.instruction.Mode.{Mode}
use Rattle.tso_line.specs.declared.instruction.Mode.TheVariants.{Strict, Weak}
use Rattle.tso_prog.specs.declared.answer.Answer.{Answer}
use Rattle.tso_prog.specs.declared.answer.Answer.TheVariants.{Refused, Done, Value}
use Rattle.tso_why.specs.declared.call.Returned.{Returned}
use Rattle.tso_why.specs.declared.call.TimedCall.{TimedCall}
use Rattle.tso_why.specs.declared.why.Cause.{Cause}
use Rattle.tso_why.specs.declared.why.Cause.TheVariants.{Surplus, NotEmpty, Overtaken, Overfull, NotFull}

-- the answer, once it has returned
abbrev pub answered : Option Returned → Option Answer
answered None = None
answered (Some r) = Some r.answer

-- it has returned before this label
abbrev pub is_over : ℕ → Option Returned → Bool
is_over label None = false
is_over label (Some r) = nat_lt r.label label

abbrev pub is_pop : CallKind → Bool
is_pop (Push word) = false
is_pop Pop = true

-- the word of a push
abbrev pub word_of : CallKind → Option ℕ
word_of (Push word) = Some word
word_of Pop = None

abbrev pub is_refusal : Option Answer → Bool
is_refusal (Some Refused) = true
is_refusal _ = false

abbrev pub is_done : Option Answer → Bool
is_done (Some Done) = true
is_done _ = false

abbrev pub value_of : Option Answer → Option ℕ
value_of (Some (Value word)) = Some word
value_of _ = None

abbrev pub is_word : ℕ → Option ℕ → Bool
is_word word None = false
is_word word (Some other) = other == word

-- a push of this word that was not refused: it has put it, or is pending and may have
abbrev pub may_put : ℕ → TimedCall → Bool
may_put word c = is_word word (word_of c.kind) && not (is_refusal (answered c.returns))

-- a pop that took this word
abbrev pub took : ℕ → TimedCall → Bool
took word c = is_word word (value_of (answered c.returns))

-- a pop that began before this label, and took this word, or is pending and may have
abbrev pub may_take : ℕ → ℕ → TimedCall → Bool
may_take word label c = is_pop c.kind && nat_lt c.begins label && (took word c || not (is_some c.returns))

abbrev pub leaves : ℕ → ℕ → TimedCall → Bool
leaves word label c = not (may_take word label c)

-- a push that was done before this label
abbrev pub has_put : ℕ → TimedCall → Bool
has_put label c = is_done (answered c.returns) && is_over label c.returns

-- the label at which it returned, 0 where it is pending
abbrev pub end_of : Option Returned → ℕ
end_of None = 0
end_of (Some r) = r.label

-- more pops took the call's word than pushes can have put it
abbrev pub surplus_of : List TimedCall → ℕ → Cause
surplus_of cs word = Surplus word (count_by (took word) cs) (count_by (may_put word) cs)

abbrev pub is_surplus : List TimedCall → Option ℕ → Bool
is_surplus cs None = false
is_surplus cs (Some word) = nat_lt (count_by (may_put word) cs) (count_by (took word) cs)

abbrev pub surplus_call : List TimedCall → Option TimedCall
surplus_call cs = find (λ c. is_surplus cs (value_of (answered c.returns))) cs

abbrev pub surplus : List TimedCall → Option Cause
surplus cs = option_map (surplus_of cs) (option_and_then (λ c. value_of (answered c.returns)) (surplus_call cs))

-- pushes that are done, less the pops that took a word or may have: so many items at the least
abbrev pub puts : List TimedCall → ℕ
puts cs = count_by (λ c. is_done (answered c.returns)) cs

abbrev pub takes : List TimedCall → ℕ
takes cs = count_by (λ c. is_pop c.kind && not (is_refusal (answered c.returns))) cs

abbrev pub overfull : ℕ → List TimedCall → Option Cause
overfull capacity cs = if nat_lt capacity (puts cs - takes cs) then Some (Overfull (puts cs - takes cs) capacity) else None

-- no pop that began before the label may have taken the word
abbrev pub is_left_word : List TimedCall → ℕ → Option ℕ → Bool
is_left_word cs label None = false
is_left_word cs label (Some word) = list_all (leaves word label) cs

-- the push was done before the pop began, and its word was left until the pop returned
abbrev pub is_left : List TimedCall → TimedCall → TimedCall → Bool
is_left cs pop push = has_put pop.begins push && is_left_word cs (end_of pop.returns) (word_of push.kind)

abbrev pub left_for : List TimedCall → TimedCall → Option TimedCall
left_for cs pop = if is_pop pop.kind && is_refusal (answered pop.returns) then find (is_left cs pop) cs else None

-- the first of these pops that was refused with such a push
abbrev pub not_empty : List TimedCall → List TimedCall → Option Cause
not_empty cs [] = None
not_empty cs (pop ∷ pops) = option_or (option_map (NotEmpty pop) (left_for cs pop)) (not_empty cs pops)

-- the call is no push of the word, or begins behind the label
abbrev pub is_later : ℕ → ℕ → TimedCall → Bool
is_later word label c = not (may_put word c) || nat_lt label c.begins

-- the push was done before any push of the value began, and its word was left until the pop of the value returned
abbrev pub is_passed : List TimedCall → TimedCall → Option ℕ → TimedCall → Bool
is_passed cs pop None push = false
is_passed cs pop (Some word) push =
    is_done (answered push.returns) && (list_all (is_later word (end_of push.returns)) cs && is_left_word cs (end_of pop.returns) (word_of push.kind))

abbrev pub passed_by : List TimedCall → TimedCall → Option TimedCall
passed_by cs pop = find (is_passed cs pop (value_of (answered pop.returns))) cs

-- the first of these pops whose value came out before that of such a push
abbrev pub overtaken : List TimedCall → List TimedCall → Option Cause
overtaken cs [] = None
overtaken cs (pop ∷ pops) = option_or (option_map (Overtaken pop) (passed_by cs pop)) (overtaken cs pops)

-- pushes that began before the end of the refused one and were not refused, less the pops that took a word before it began: so
-- many items at the most
abbrev pub most_puts : TimedCall → List TimedCall → ℕ
most_puts push cs = count_by (λ c. not (is_pop c.kind) && (not (is_refusal (answered c.returns)) && nat_lt c.begins (end_of push.returns))) cs

abbrev pub least_takes : TimedCall → List TimedCall → ℕ
least_takes push cs = count_by (λ c. is_some (value_of (answered c.returns)) && is_over push.begins c.returns) cs

abbrev pub has_room : ℕ → List TimedCall → TimedCall → Bool
has_room capacity cs push =
    not (is_pop push.kind) && (is_refusal (answered push.returns) && nat_lt (most_puts push cs - least_takes push cs) capacity)

abbrev pub not_full : ℕ → List TimedCall → Option Cause
not_full capacity cs = option_map (λ push. NotFull push (most_puts push cs - least_takes push cs) capacity) (find (has_room capacity cs) cs)

-- in strict mode a refusal says that the queue is empty or full
abbrev pub refused_wrongly : Mode → ℕ → List TimedCall → Option Cause
refused_wrongly Strict capacity cs = option_or (not_empty cs cs) (not_full capacity cs)
refused_wrongly Weak capacity cs = None

-- the first of these that holds
abbrev pub cause_of : Mode → ℕ → List TimedCall → Option Cause
cause_of mode capacity cs = option_or (surplus cs) (option_or (overfull capacity cs) (option_or (overtaken cs cs) (refused_wrongly mode capacity cs)))
