use Rattle.std.proofs.Common.{◌∙◌, arith, subst, List}
use Rattle.tso_line.specs.declared.instruction.CallKind.{CallKind}
use Rattle.tso_cells.proofs.Growth.{inside_refl, inside_trans}
use Rattle.tso_cells.proofs.StartLemmas.{all_threads, thread_more}
use Rattle.tso_cells.specs.Starts.{HasArguments}
use Rattle.tso_cells.proofs.arguments.with_threads.Goals as goal

pub loop-i-init : goal.loop-i-init
loop-i-init c = record { keeps = inside_refl c.args.interval; has = λ n calls lt. absurd (omega (arith, lt)) }

pub loop-i-preserved : goal.loop-i-preserved
loop-i-preserved c = record {
  keeps = inside_trans c.args.interval c.loop-i.all c.with_arguments-all.result c.loop-i.invariant.keeps c.with_arguments-all.ensures.keeps;
  has = thread_more c.loop-i.all c.with_arguments-all.result c.args.threads.now c.loop-i.i c.index-threads-i.result c.with_arguments-all.ensures.keeps c.loop-i.invariant.has
      (subst (λ (x : List CallKind). HasArguments c.with_arguments-all.result x) (c.as_slice.ensures ∙ c.index-threads-i.is) c.with_arguments-all.ensures.has);
}

pub returns : goal.returns
returns c = record { keeps = c.loop-i.invariant.keeps; has = all_threads c.loop-i.all c.args.threads.now c.loop-i.i c.loop-i-test.false c.loop-i.invariant.has }
