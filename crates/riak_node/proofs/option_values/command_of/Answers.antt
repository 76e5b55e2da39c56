use Rattle.std.proofs.Common.{sym, ap, ◌∙◌, Some}
use Rattle.clap.specs.Matches.{found_of}
use Rattle.riak_node.proofs.option_values.command_of.Goals as goal

pub returns-in-Some-pipe-default : goal.returns-in-Some-pipe-default
returns-in-Some-pipe-default c =
    let met = c.in-Some-pipe-default in
    record { named = sym met.ensures.name ∙ ap Some met.is-pipe; found = found_of met.found.now; rows = sym met.ensures.rows; options = c.pipe_options.ensures }

pub returns-in-Some-serve-default : goal.returns-in-Some-serve-default
returns-in-Some-serve-default c =
    let met = c.in-Some-serve-default in
    record { named = sym met.ensures.name ∙ ap Some met.is-serve; found = found_of met.found.now; rows = sym met.ensures.rows; options = c.serve_options.ensures }

pub returns-in-Some-steps-default : goal.returns-in-Some-steps-default
returns-in-Some-steps-default c =
    let met = c.in-Some-steps-default in
    record { named = sym met.ensures.name ∙ ap Some met.is-steps; found = found_of met.found.now; rows = sym met.ensures.rows; options = c.steps_options.ensures }
