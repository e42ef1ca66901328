-- States, ends and records, read one after the other.
use Rattle.std.proofs.Common.{◌≡◌, ℕ, ◌-◌, ◌+◌, ◌<◌, ◌≤◌, ◌^◌, true, List, [], ◌∷◌, ◌++◌, length, Option, Some, None, refl, sym, ap, subst, ◌∙◌, append_assoc, arith, slice_get}
use Rattle.std.proofs.lemmas.List.{append-nil, length-append, map-append}
use Rattle.tso_code.proofs.ItemLemmas.{goes_on, is_done, with_front}
use Rattle.tso_code.specs.Fields.{items_at, list_at}
use Rattle.tso_code.specs.Numbers.{word_at}
use Rattle.tso_code.specs.States.{call_at, state_at, thread_at}
use Rattle.tso_hist.specs.declared.call.Call.{Call}
use Rattle.tso_parts.proofs.Marked.{new_item}
use Rattle.tso_parts.specs.Numbers.{Extends}
use Rattle.tso_prog.specs.declared.client.Client.{Client}
use Rattle.tso_rec.specs.Records.{ends_of, states_of}
use Rattle.tso_rec.specs.Spelling.{record_at}
use Rattle.tso_rec.specs.declared.basis.Grain.TheVariants.{Steps}
use Rattle.tso_rec.specs.declared.record.End.{End}
use Rattle.tso_rec.specs.declared.record.Record.{Record}
use Rattle.tso_scan.specs.Scanned.{AreRecordsScanned, HasMore, IsEndScanned, IsRecordScanned, IsScan, IsStateScanned, scanned_states}
use Rattle.tso_scan.specs.Scrolls.{IsListReadAs, IsReadAs}
use Rattle.tso_scan.specs.Sources.{IsHistoryReadAs, IsKeyReadAs, parts_of}
use Rattle.tso_scan.specs.declared.rows.Row.{Row}
use Rattle.tso_scan.specs.declared.sources.Sources.{Sources}
use Rattle.tso_scan.specs.declared.states.Scan.{Scan}
use Rattle.tso_state.specs.WellFormed.{thread_total}
use Rattle.tso_state.specs.declared.state.State.{State}
use Rattle.tso_state.specs.declared.state.Thread.{Thread}
use Rattle.tso_keys.proofs.StateLemmas.{added_kept}
use Rattle.tso_store.proofs.Sheeted.{added}
use Rattle.tso_keys.specs.Keys.{Grows}
use Rattle.tso_keys.specs.declared.key.Key.{Key}
use Rattle.tso_keys.specs.declared.parts.Parts.{Parts}

pub grows_none : (p : Parts) → Grows p p
grows_none p = record { memories = λ i x e. e; histories = λ i x e. e; threads = λ i x e. e; small = λ e. e }

grows_twice : (a b c : Parts) → Grows a b → Grows b c → Grows a c
grows_twice a b c f g = record {
  memories = λ i x e. g.memories i x (f.memories i x e);
  histories = λ i x e. g.histories i x (f.histories i x e);
  threads = λ i x e. g.threads i x (f.threads i x e);
  small = λ e. g.small (f.small e);
}

-- ---- states

-- the fields of a state, one after the other
pub state_reads : (bytes after_memory after_threads rest memory : List ℕ) (threads : List Thread) (history : List (List Call)) → list_at word_at bytes ≡ Some (memory, after_memory) → list_at thread_at after_memory ≡ Some (threads, after_threads)
    → list_at (list_at call_at) after_threads ≡ Some (history, rest) → state_at bytes ≡ Some (record { memory = memory; threads = threads; history = history }, rest)
unfolding state_at
state_reads bytes after_memory after_threads rest memory threads history one two three = rw (one, two, three) refl

-- the key of the state whose parts were read
pub key_read : (c : Client) (old new : Sources) (count memory history : ℕ) (row : Row) (bytes after_memory after_threads rest : List ℕ) → count ≡ thread_total c → IsReadAs (list_at word_at) new.memories memory bytes after_memory → Extends old.memories new.memories
    → IsListReadAs thread_at new.threads count row after_memory after_threads → Extends old.threads new.threads → length new.threads < 2 ^ 32 → IsHistoryReadAs new.lists old.histories new.histories new.rows count history after_threads rest
    → IsKeyReadAs c old new bytes (record { memory = memory; history = history; threads = row.numbers }) rest
key_read c old new count memory history row bytes after_memory after_threads rest many one more two others small three = record {
  state = record { memory = one.part; threads = two.parts; history = three.history };
  reads = state_reads bytes after_memory after_threads rest one.part two.parts three.history one.reads two.reads three.reads;
  key = record { memory = one.at; history = three.at; threads = two.numbers; wide = two.wide };
  fits = record { threads = two.count ∙ many; lists = three.count ∙ many };
  grows = record { memories = more; histories = three.extends; threads = others; small = λ e. small };
  small = small;
  rows = three.rows;
}

-- the state that was read is the last one
pub state_scanned : (c : Client) (old : Scan) (now : Sources) (after : List Key) (k : Key) (bytes rest : List ℕ) → IsScan c old → IsKeyReadAs c old.sources now bytes k rest → after ≡ old.keys ++ k ∷ []
    → IsStateScanned c old (record { sources = now; keys = after; reader = old.reader; ends = old.ends }) bytes rest
state_scanned c old now after k bytes rest is read e =
    let at : slice_get after (length old.keys) ≡ Some k = ap (λ (l : List Key). slice_get l (length old.keys)) e ∙ new_item old.keys k in
    let kept = added_kept c (parts_of old.sources) (parts_of now) old.keys after k read.state true read.grows read.small is.kept read.key read.fits e in
    let more = added c (parts_of old.sources) (parts_of now) old.keys after k read.state (length old.keys) true read.grows read.small is.kept read.key e at in
    record {
      state = read.state;
      reads = read.reads;
      more = record {
        scan = record { kept = kept; small = read.small; rows = read.rows };
        grows = read.grows;
        states = more.kept;
        ends = sym (append-nil old.ends);
      };
    }

-- ---- records

-- what comes after what came before
pub twice_more : (c : Client) (old mid new : Scan) (ss ts : List State) (es fs : List End) → HasMore c old mid ss es → HasMore c mid new ts fs → HasMore c old new (ss ++ ts) (es ++ fs)
twice_more c old mid new ss ts es fs one two = record {
  scan = two.scan;
  grows = grows_twice (parts_of old.sources) (parts_of mid.sources) (parts_of new.sources) one.grows two.grows;
  states = two.states ∙ ap (λ (l : List State). l ++ ts) one.states ∙ append_assoc (scanned_states old) ss ts;
  ends = two.ends ∙ ap (λ (l : List End). l ++ fs) one.ends ∙ append_assoc old.ends es fs;
}

end_more : (c : Client) (old new : Scan) (bytes rest : List ℕ) → IsScan c old → (is : IsEndScanned old new bytes rest) → HasMore c old new [] (is.end ∷ [])
end_more c old new bytes rest scan is = record {
  scan = record { kept = rw (is.sources, is.keys) scan.kept; small = rw is.sources scan.small; rows = rw is.sources scan.rows };
  grows = rw is.sources (grows_none (parts_of old.sources));
  states = rw (is.sources, is.keys) (sym (append-nil (scanned_states old)));
  ends = is.ends;
}

-- a record is its state and then its end
pub record_scanned : (c : Client) (old mid new : Scan) (bytes after rest : List ℕ) → IsStateScanned c old mid bytes after → IsEndScanned mid new after rest → IsRecordScanned c old new bytes rest
unfolding record_at
record_scanned c old mid new bytes after rest one two = record {
  last = record { state = one.state; end = two.end };
  reads = rw (one.reads, two.reads) refl;
  more = twice_more c old mid new (one.state ∷ []) [] [] (two.end ∷ []) one.more (end_more c mid new after rest one.more.scan two);
}

-- so many records were read
pub record AreRecordsTo (c : Client) (old new : Scan) (many done : ℕ) (bytes rest : List ℕ) : Type 0 where
  pub records : List Record
  pub count : length records ≡ done
  pub reads : with_front records (items_at (record_at Steps) (many - done) rest) ≡ items_at (record_at Steps) many bytes
  pub more : HasMore c old new (states_of records) (ends_of records)

no_front : {X : Type 0} (o : Option (List X × List ℕ)) → with_front [] o ≡ o
no_front None = refl
no_front (Some x) = refl

pub nothing_more : (c : Client) (s : Scan) → IsScan c s → HasMore c s s [] []
nothing_more c s is = record {
  scan = is;
  grows = grows_none (parts_of s.sources);
  states = sym (append-nil (scanned_states s));
  ends = sym (append-nil s.ends);
}

pub records_none : (c : Client) (s : Scan) (many : ℕ) (bytes : List ℕ) → IsScan c s → AreRecordsTo c s s many 0 bytes bytes
records_none c s many bytes is = record {
  records = [];
  count = refl;
  reads = no_front (items_at (record_at Steps) (many - 0) bytes) ∙ ap (λ k. items_at (record_at Steps) k bytes) (let e : many - 0 ≡ many = omega arith in e);
  more = nothing_more c s is;
}

pub records_more : (c : Client) (old mid new : Scan) (many done : ℕ) (bytes rest after : List ℕ) → done < many → AreRecordsTo c old mid many done bytes rest → IsRecordScanned c mid new rest after → AreRecordsTo c old new many (done + 1) bytes after
records_more c old mid new many done bytes rest after lt is one =
    let one_state = map-append (λ (r : Record). r.state) is.records (one.last ∷ []) in
    let one_end = map-append (λ (r : Record). r.end) is.records (one.last ∷ []) in
    let both = twice_more c old mid new (states_of is.records) (one.last.state ∷ []) (ends_of is.records) (one.last.end ∷ []) is.more one.more in
    record {
      records = is.records ++ one.last ∷ [];
      count = length-append is.records (one.last ∷ []) ∙ ap (λ k. k + 1) is.count;
      reads = goes_on (record_at Steps) is.records many done rest one.last after (items_at (record_at Steps) many bytes) lt one.reads is.reads;
      more = subst (λ (l : List State). HasMore c old new l (ends_of (is.records ++ one.last ∷ []))) (sym one_state) (subst (λ (l : List End). HasMore c old new (states_of is.records ++ one.last.state ∷ []) l) (sym one_end) both);
    }

pub records_all : (c : Client) (old new : Scan) (many done : ℕ) (bytes rest : List ℕ) → many ≤ done → done ≤ many → AreRecordsTo c old new many done bytes rest → AreRecordsScanned c old new many bytes rest
records_all c old new many done bytes rest le ge is = record {
  records = is.records;
  count = let a = is.count in omega (arith, le, ge, a);
  reads = is_done (record_at Steps) is.records many done rest (items_at (record_at Steps) many bytes) le is.reads;
  more = is.more;
}
