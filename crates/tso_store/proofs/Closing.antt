-- What a store is after a call.
use Rattle.std.proofs.Common.{◌≡◌, Bool, List}
use Rattle.tso_parts.specs.Numbers.{grown}
use Rattle.tso_prog.specs.declared.client.Client.{Client}
use Rattle.tso_state.specs.declared.state.State.{State}
use Rattle.tso_keys.specs.declared.key.Key.{Key}
use Rattle.tso_store.specs.declared.known.Known.{Known}
use Rattle.tso_keys.specs.declared.parts.Parts.{Parts}
use Rattle.tso_keys.specs.declared.running.Running.{Running}
use Rattle.tso_keys.specs.Keys.{FitsClient, Grows, IsKeyOf}
use Rattle.tso_store.specs.Remembered.{AreKnown}
use Rattle.tso_keys.specs.Running.{AreRunning}
use Rattle.tso_store.specs.Sheets.{IsSheet}
use Rattle.tso_store.proofs.Recalls.{known_grows}
use Rattle.tso_keys.proofs.Procedures.{running_grows}
use Rattle.tso_keys.proofs.StateLemmas.{added_kept, kept_stay}

pub sheet_grows : (c : Client) (old new : Parts) (ks : List Key) (ds es : List Known) (rs ts : List Running) → IsSheet c old ks ds rs → Grows old new → AreKnown c new.threads es → AreRunning new.histories ts → IsSheet c new ks es ts
sheet_grows c old new ks ds es rs ts sheet grows known running = record { kept = kept_stay c old new ks grows (grows.small sheet.small) sheet.kept; small = grows.small sheet.small; recalls = known; running = running }

pub sheet_added : (c : Client) (old new : Parts) (ks after : List Key) (ds es : List Known) (rs ts : List Running) (k : Key) (s : State) (b : Bool) → IsSheet c old ks ds rs → Grows old new → AreKnown c new.threads es → AreRunning new.histories ts → IsKeyOf new k s → FitsClient c s → after ≡ grown ks k b → IsSheet c new after es ts
sheet_added c old new ks after ds es rs ts k s b sheet grows known running is fits e = record { kept = added_kept c old new ks after k s b grows (grows.small sheet.small) sheet.kept is fits e; small = grows.small sheet.small; recalls = known; running = running }

pub still_known : (c : Client) (old new : Parts) (ds : List Known) → Grows old new → AreKnown c old.threads ds → AreKnown c new.threads ds
still_known c old new ds grows known = known_grows c old.threads new.threads ds grows.threads known

-- the same where no more is known of histories
pub sheet_walked : (c : Client) (old new : Parts) (ks : List Key) (ds es : List Known) (rs : List Running) → IsSheet c old ks ds rs → Grows old new → AreKnown c new.threads es → IsSheet c new ks es rs
sheet_walked c old new ks ds es rs sheet grows known = sheet_grows c old new ks ds es rs rs sheet grows known (running_grows old.histories new.histories rs grows.histories sheet.running)

-- the same where nothing more is known than before
pub sheet_stays : (c : Client) (old new : Parts) (ks : List Key) (ds : List Known) (rs : List Running) → IsSheet c old ks ds rs → Grows old new → IsSheet c new ks ds rs
sheet_stays c old new ks ds rs sheet grows = sheet_grows c old new ks ds ds rs rs sheet grows (still_known c old new ds grows sheet.recalls) (running_grows old.histories new.histories rs grows.histories sheet.running)

pub sheet_with : (c : Client) (old new : Parts) (ks after : List Key) (ds : List Known) (rs : List Running) (k : Key) (s : State) (b : Bool) → IsSheet c old ks ds rs → Grows old new → IsKeyOf new k s → FitsClient c s → after ≡ grown ks k b → IsSheet c new after ds rs
sheet_with c old new ks after ds rs k s b sheet grows is fits e = sheet_added c old new ks after ds ds rs rs k s b sheet grows (still_known c old new ds grows sheet.recalls) (running_grows old.histories new.histories rs grows.histories sheet.running) is fits e
