use Rattle.std.proofs.Common.{◌∙◌, ◌+◌, ap, length, subst, sym, arith}
use Rattle.handoff.specs.declared.copy_step.Step.{Step}
use Rattle.handoff.specs.Steps.{CopiesOrStays}
use Rattle.handoff.proofs.Copies.{step-copies, step-rises, made-length, tried-made, tried-more, tried-stuck}
use Rattle.handoff.proofs.copying.copy_counted.Goals as goal

pub returns-in-End-clause-copies : goal.returns-in-End-clause-copies
returns-in-End-clause-copies g c =
    step-copies c.args.partition.now.fallback.now.diversion c.args.mine.now c.copy_next.new.mine c.args.theirs.now c.copy_next.new.theirs c.in_ok-step.step
    (c.copy_next.ensures.theirs ∙ sym c.requires.theirs) c.copy_next.ensures.more_there c.copy_next.ensures.more c.requires.copies c.in_ok-step.ensures.step

pub returns-in-Made-clause-copies : goal.returns-in-Made-clause-copies
returns-in-Made-clause-copies g c =
    step-copies c.args.partition.now.fallback.now.diversion c.args.mine.now c.copy_next.new.mine c.args.theirs.now c.copy_next.new.theirs c.in_ok-step.step
    (c.copy_next.ensures.theirs ∙ sym c.requires.theirs) c.copy_next.ensures.more_there c.copy_next.ensures.more c.requires.copies c.in_ok-step.ensures.step

pub returns-in-Passed-clause-copies : goal.returns-in-Passed-clause-copies
returns-in-Passed-clause-copies g c =
    step-copies c.args.partition.now.fallback.now.diversion c.args.mine.now c.copy_next.new.mine c.args.theirs.now c.copy_next.new.theirs c.in_ok-step.step
    (c.copy_next.ensures.theirs ∙ sym c.requires.theirs) c.copy_next.ensures.more_there c.copy_next.ensures.more c.requires.copies c.in_ok-step.ensures.step

pub returns-in-Stuck-clause-copies : goal.returns-in-Stuck-clause-copies
returns-in-Stuck-clause-copies g c =
    step-copies c.args.partition.now.fallback.now.diversion c.args.mine.now c.copy_next.new.mine c.args.theirs.now c.copy_next.new.theirs c.in_ok-step.step
    (c.copy_next.ensures.theirs ∙ sym c.requires.theirs) c.copy_next.ensures.more_there c.copy_next.ensures.more c.requires.copies c.in_ok-step.ensures.step

pub returns-in-Made-clause-more : goal.returns-in-Made-clause-more
returns-in-Made-clause-more g c =
    let longer = made-length c.args.partition.now.fallback.now.diversion c.args.mine.now c.copy_next.new.mine c.copy_next.new.theirs c.in_ok-step.step c.in-Made.last c.in-Made.is c.in_ok-step.ensures.step in (
      ap (λ n. n + 1) c.requires.keys ∙ sym longer,
      omega arith,
      tried-made c.args.partition.now.fallback.now.diversion c.copy_next.new.mine c.copy_next.new.theirs c.args.keys c.args.tried
          (tried-more c.args.partition.now.fallback.now.diversion c.args.mine.now c.copy_next.new.mine c.args.theirs.now c.copy_next.new.theirs c.args.keys c.args.tried
          (c.copy_next.ensures.mine ∙ sym c.requires.mine) c.copy_next.ensures.more (c.copy_next.ensures.theirs ∙ sym c.requires.theirs) c.copy_next.ensures.more_there c.requires.tried),
    )

pub returns-in-Passed-clause-more : goal.returns-in-Passed-clause-more
returns-in-Passed-clause-more g c =
    let stays = subst (λ (s : Step). CopiesOrStays c.args.partition.now.fallback.now.diversion c.args.mine.now c.copy_next.new.mine c.copy_next.new.theirs s) c.in-Passed.is c.in_ok-step.ensures.step in (
      c.requires.keys ∙ ap length (sym stays),
      omega arith,
      tried-more c.args.partition.now.fallback.now.diversion c.args.mine.now c.copy_next.new.mine c.args.theirs.now c.copy_next.new.theirs c.args.keys c.args.tried
          (c.copy_next.ensures.mine ∙ sym c.requires.mine) c.copy_next.ensures.more (c.copy_next.ensures.theirs ∙ sym c.requires.theirs) c.copy_next.ensures.more_there c.requires.tried,
    )

pub returns-in-Stuck-clause-more : goal.returns-in-Stuck-clause-more
returns-in-Stuck-clause-more g c =
    let stays = subst (λ (s : Step). CopiesOrStays c.args.partition.now.fallback.now.diversion c.args.mine.now c.copy_next.new.mine c.copy_next.new.theirs s) c.in-Stuck.is c.in_ok-step.ensures.step in (
      c.requires.keys ∙ ap length (sym stays.0),
      omega arith,
      tried-stuck c.args.partition.now.fallback.now.diversion c.args.mine.now c.copy_next.new.mine c.copy_next.new.theirs c.in_ok-step.step c.in-Stuck.last c.args.keys c.args.tried c.in-Stuck.is c.in_ok-step.ensures.step
          (tried-more c.args.partition.now.fallback.now.diversion c.args.mine.now c.copy_next.new.mine c.args.theirs.now c.copy_next.new.theirs c.args.keys c.args.tried
          (c.copy_next.ensures.mine ∙ sym c.requires.mine) c.copy_next.ensures.more (c.copy_next.ensures.theirs ∙ sym c.requires.theirs) c.copy_next.ensures.more_there c.requires.tried),
    )

pub returns-in-End-clause-tried : goal.returns-in-End-clause-tried
returns-in-End-clause-tried g c =
    tried-more c.args.partition.now.fallback.now.diversion c.args.mine.now c.copy_next.new.mine c.args.theirs.now c.copy_next.new.theirs c.args.keys c.args.tried
    (c.copy_next.ensures.mine ∙ sym c.requires.mine) c.copy_next.ensures.more (c.copy_next.ensures.theirs ∙ sym c.requires.theirs) c.copy_next.ensures.more_there c.requires.tried

pub returns-in-End-clause-rise : goal.returns-in-End-clause-rise
returns-in-End-clause-rise g c =
    step-rises c.args.began c.args.partition.now.fallback.now.diversion c.args.mine.now c.copy_next.new.mine c.copy_next.new.theirs c.in_ok-step.step c.copy_next.ensures.more c.requires.rise c.in_ok-step.ensures.step

pub returns-in-Made-clause-rise : goal.returns-in-Made-clause-rise
returns-in-Made-clause-rise g c =
    step-rises c.args.began c.args.partition.now.fallback.now.diversion c.args.mine.now c.copy_next.new.mine c.copy_next.new.theirs c.in_ok-step.step c.copy_next.ensures.more c.requires.rise c.in_ok-step.ensures.step

pub returns-in-Passed-clause-rise : goal.returns-in-Passed-clause-rise
returns-in-Passed-clause-rise g c =
    step-rises c.args.began c.args.partition.now.fallback.now.diversion c.args.mine.now c.copy_next.new.mine c.copy_next.new.theirs c.in_ok-step.step c.copy_next.ensures.more c.requires.rise c.in_ok-step.ensures.step

pub returns-in-Stuck-clause-rise : goal.returns-in-Stuck-clause-rise
returns-in-Stuck-clause-rise g c =
    step-rises c.args.began c.args.partition.now.fallback.now.diversion c.args.mine.now c.copy_next.new.mine c.copy_next.new.theirs c.in_ok-step.step c.copy_next.ensures.more c.requires.rise c.in_ok-step.ensures.step
