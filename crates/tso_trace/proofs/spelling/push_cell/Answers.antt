use Rattle.std.proofs.Common.{◌∙◌, ◌++◌, List, ℕ, ap, get_or, sym, string_bytes, IsTrue}
use Rattle.std.proofs.lemmas.List.{append_assoc}
use Rattle.std.proofs.lemmas.Option.{slice_get-get_or}
use Rattle.std.proofs.lemmas.Result.{on_ok_weaker}
use Rattle.tso_prog.specs.declared.client.Array.{Array}
use Rattle.tso_prog.specs.Limits.{is_short_name}
use Rattle.tso_trace.proofs.AccessLemmas.{shown_cell, shown_place}
use Rattle.tso_trace.proofs.NameLemmas.{each_has}
use Rattle.tso_trace.proofs.spelling.push_cell.Goals as goal

pub returns-in_ok-push_name-in-Some : goal.returns-in_ok-push_name-in-Some
returns-in_ok-push_name-in-Some c named =
    let arrays = c.args.arrays.now in
    let a = get_or arrays c.in-Some.cell.array c.index-arrays-cell.result in
    let found = slice_get-get_or arrays c.in-Some.cell.array c.index-arrays-cell.result c.in-Some.ensures.array in
    let short : IsTrue (is_short_name a.name) = each_has (λ (x : Array). is_short_name x.name) arrays c.in-Some.cell.array a named found in
    let name = c.in_ok-push_name-in-Some.ensures (rw c.as_slice.ensures short) in
    let cell = shown_cell arrays c.in-Some.cell.array c.in-Some.cell.index c.args.place a found c.in-Some.ensures.place in
    on_ok_weaker c.write.result (λ is. is ∙ rw (name, c.as_slice.ensures, append_assoc) (ap (λ (l : List ℕ). string_bytes c.args.text.now ++ l) (sym cell))) c.write.ensures.bytes

pub returns-in-None : goal.returns-in-None
returns-in-None c named =
    let cell = shown_place c.args.arrays.now c.args.place c.in-None.ensures.none in
    on_ok_weaker c.write-in-None.result (λ is. is ∙ ap (λ (l : List ℕ). string_bytes c.args.text.now ++ l) (sym cell)) c.write-in-None.ensures.bytes
