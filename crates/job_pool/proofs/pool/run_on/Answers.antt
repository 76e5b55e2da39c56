use denote.Param.Send.{sendable}
use Rattle.job_pool.proofs.pool.run_on.Goals as goal

-- the closure asks what the function was asked, and that its types may be sent and shared
pub scoped-requires : goal.scoped-requires
scoped-requires g c =
    let asked = c.requires in
    record { at = λ a. (asked.queue, (asked.accepts, (asked.jobs, (asked.new, (asked.told, (search sendable, search sendable, search sendable, search sendable, search sendable, search sendable, search sendable, search sendable, search sendable, search sendable)))))) }
