pub mod OptionsTaken
mod FaultKinds
mod LoadRefused
mod LoadParts
mod ReplayParts
mod ServerParts
mod ProgramRun
mod ProgramEnding
mod DumpedParts
mod DumpedTaken
