-- Records: what is read is spelled so, and what is spelled so is read.
use Rattle.std.proofs.Common.{refl}
use Rattle.tso_code.proofs.Codes.{IsCode, two}
use Rattle.tso_code.proofs.StateCodes.{state_code}
use Rattle.tso_rec.specs.EndCodes.{ending_code}
use Rattle.tso_rec.specs.Spelling.{a_record, record_at, RecordFits}
use Rattle.tso_rec.specs.declared.basis.Grain.{Grain}

pub record_code : (g : Grain) → IsCode (RecordFits g) (a_record g) (record_at g)
unfolding record_at
record_code g = two state_code (ending_code g) (λ state end. record { state = state; end = end }) (λ r. r.state) (λ r. r.end) (λ x. refl) (λ p q. refl) (λ p q. refl)
