pub mod Numbers
pub mod Lists
pub mod Mapped
pub mod Beginnings
pub mod Shown
pub mod Inside
pub mod Accepting
pub mod Unmixed
pub mod Coming
pub mod Turns
pub mod LookTurns
pub mod CopyTurns
pub mod EachTurn
pub mod Own
pub mod Kept
pub mod KeptSteps
pub mod FirstWorld
pub mod Diverting
pub mod Scheduled
pub mod Lifting
pub mod Claiming
pub mod Leaving
pub mod Showing
pub mod CopyErasing
pub mod Erasing
pub mod CallSites
pub mod CallsApart
pub mod CloseErasing
pub mod CloseSteps
pub mod CloseTurns
pub mod Closes
pub mod CourseCloses
pub mod CourseDiverts
pub mod CourseShows
pub mod ErasedSteps
pub mod Growing
pub mod Judged
pub mod Quiet
pub mod Coursing
pub mod CourseSteps
pub mod CourseLaw
pub mod FallbackLogs
pub mod CourseJoins
pub mod OneKey
pub mod OneDot
pub mod Telling
pub mod Lawful
pub mod Joined
pub mod Moments
pub mod Uncopied
pub mod Firsts
pub mod Replaying
pub mod Rows
pub mod CopyRows
pub mod CloseRows
pub mod ToldRows
mod Fitting
mod Following
mod Looking
mod Looked
mod Publishing
mod Planning
mod Stepping
mod Finding
mod Asking
mod CopyAsking
mod RunCloses
mod Taking
mod Preparing
mod Syncing
mod Sighting
mod Fallbacks
pub mod Opening
mod RunsOn
mod Gates
