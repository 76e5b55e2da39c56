-- What a look in a worker's hand comes to, as its turn.
use Rattle.std.proofs.Common.{◌≡◌, refl, ap}
use Rattle.std.specs.Prelude.{Option, Some, None, option_map}
use Rattle.std.specs.Global.{Box}
use Rattle.node_steps.specs.declared.hand.Hand.{Hand}
use Rattle.node_steps.specs.declared.site.Site.{Site}
use Rattle.node_steps.specs.World.{Taken}
use Rattle.node_steps.specs.Erased.{erase_vnode}
use Rattle.node_steps.specs.Hands.{HandView}
use Rattle.node_steps.specs.Running.{vnode_by, vnode_of}

pub vnode_itself : (site : Site) → vnode_of site ≡ erase_vnode (vnode_of site)
vnode_itself site = by (option_map (λ h. h.value) site.place)
  where
    by : (place : Option HandView) → vnode_by site.own site.readers site.marked place ≡ erase_vnode (vnode_by site.own site.readers site.marked place)
    by None = refl
    by (Some hand) = refl

-- what it is of, where its state is in place and where it is in a hand
pub own_is : (site : Site) → (vnode_of site).own ≡ site.own
own_is site = by (option_map (λ h. h.value) site.place)
  where
    by : (place : Option HandView) → (vnode_by site.own site.readers site.marked place).own ≡ site.own
    by None = refl
    by (Some hand) = refl

pub in_place : (site : Site) (hand : Box Hand) → site.place ≡ Some hand → (vnode_of site).place ≡ hand.value.state
in_place site hand e = ap (λ o. (vnode_by site.own site.readers site.marked (option_map (λ (h : Box Hand). h.value) o)).place) e

pub in_hand : (site : Site) → site.place ≡ None → (vnode_of site).word ≡ Taken
in_hand site e = ap (λ o. (vnode_by site.own site.readers site.marked (option_map (λ (h : Box Hand). h.value) o)).word) e
