mod Entries
mod Replays
mod Standing
