use Rattle.std.proofs.Common.{refl}
use Rattle.dvv_set.proofs.inline.InlineList.get_mut.Goals as goal

pub returns : goal.returns
returns g c =
    let found = c.get_mut.ensures in
    rw (← c.self.view_is) (refl, record { writes_back = tt; variant = found.variant; value = found.value })
