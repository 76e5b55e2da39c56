-- The steps of the theorem's world that running steps are.
use Rattle.std.specs.Prelude.{◌≡◌, ℕ, Option, Some, None, option_map}
use Rattle.riak_msgs.specs.declared.Key.{Key}
use Rattle.riak_msgs.specs.Contents.{Content}
use Rattle.riak_msgs.specs.declared.Request.{Request}
pub use Rattle.sibling_register.specs.Answers.{RegisterAsk, AskGet, AskPut, AskDel, AskReap}
pub use Rattle.actor_epoch.specs.Given.{Context}
pub use Rattle.vnode_machine.specs.Asks.{request_ask}
use Rattle.node_steps.specs.declared.call.Call.{Call}
use Rattle.node_steps.specs.declared.step.Step.{Step as RunStep}
use Rattle.node_steps.specs.declared.step.Step.TheVariants as steps
use Rattle.node_steps.specs.declared.step.Act.{Act}
use Rattle.node_steps.specs.declared.step.Act.TheVariants as acts
use Rattle.node_steps.specs.Steps.{Action, Asks, AsksNowhere, Copies, Closes, Enters, Leaves, Marks, Unmarks, Takes, Puts, Looks, Publishes, Step, By, Diverts}
use Rattle.node_steps.specs.Running.{ask_of}

-- the call asks what the request does
abbrev pub CallsFor : Request → Option Call → Type 0
CallsFor request call = option_map ask_of call ≡ request_ask request

-- to ask what a request does
abbrev pub asks_by : ℕ → Option (RegisterAsk Content Context) → Action
asks_by index None = AsksNowhere
asks_by index (Some ask) = Asks index ask

abbrev pub action_of : Act → Action
action_of acts.Enter = Enters
action_of acts.Leave = Leaves
action_of acts.Mark = Marks
action_of acts.Unmark = Unmarks
action_of acts.Take = Takes
action_of acts.Put = Puts
action_of acts.Look = Looks
action_of acts.Publish = Publishes

abbrev pub step_by : ℕ → Act → Step
step_by worker act = By worker (action_of act)

abbrev pub copying_step : ℕ → ℕ → Key → Step
copying_step worker index key = By worker (Copies index key)

abbrev pub closing_step : ℕ → ℕ → Step
closing_step worker index = By worker (Closes index)

abbrev pub asking_step : ℕ → ℕ → RegisterAsk Content Context → Step
asking_step worker index ask = By worker (Asks index ask)

-- the step of the theorem's world
abbrev pub step_of : RunStep → Step
step_of (steps.Ask worker index request) = By worker (asks_by index (request_ask request))
step_of (steps.Reap worker index key) = By worker (Asks index (AskReap key))
step_of (steps.Enter worker) = By worker Enters
step_of (steps.Leave worker) = By worker Leaves
step_of (steps.Mark worker) = By worker Marks
step_of (steps.Unmark worker) = By worker Unmarks
step_of (steps.Take worker) = By worker Takes
step_of (steps.Put worker) = By worker Puts
step_of (steps.Look worker) = By worker Looks
step_of (steps.Publish worker) = By worker Publishes
step_of (steps.Divert index) = Diverts index
step_of (steps.Copy worker index key) = By worker (Copies index key)
step_of (steps.Close worker index) = By worker (Closes index)
