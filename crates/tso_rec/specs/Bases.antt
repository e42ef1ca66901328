-- What the conditions of a certificate stand on.
use Rattle.tso_foot.specs.declared.table.Table.{Table}
use Rattle.tso_rec.specs.declared.basis.Basis.{Basis}
use Rattle.tso_rec.specs.declared.basis.Grain.{Grain}
use Rattle.tso_rec.specs.declared.basis.Grain.TheVariants.{Steps}

-- a certificate of steps, with this table
abbrev pub by_steps : Table → Basis
by_steps t = record { grain = Steps; table = t }

-- a certificate of this grain, with this table
abbrev pub basis : Grain → Table → Basis
basis g t = record { grain = g; table = t }
