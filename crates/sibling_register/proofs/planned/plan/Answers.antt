use Rattle.sibling_register.proofs.planned.plan.Goals as goal

pub returns-in-Get : goal.returns-in-Get
returns-in-Get g c = record { value = rw c.in-Get.is c.plan_get.ensures.value }

pub returns-in-Put : goal.returns-in-Put
returns-in-Put g c = record { value = rw c.in-Put.is c.plan_put.ensures.value }

pub returns-in-Del : goal.returns-in-Del
returns-in-Del g c = record { value = rw c.in-Del.is c.plan_del.ensures.value }

pub returns-in-Reap : goal.returns-in-Reap
returns-in-Reap g c = record { value = rw c.in-Reap.is c.plan_reap.ensures.value }
