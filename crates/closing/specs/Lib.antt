-- When a step writes, asked of a group's entries and their lines; and a close under way, turn by turn.
pub mod Writes
pub mod Running
