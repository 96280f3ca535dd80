mod Calls
mod Databases
pub mod ItemLemmas
mod Loads
mod Lookups
mod Names
mod Publishing
mod Queues
mod Rooms
mod Slots
mod Sorting
mod Stagings
mod Tables
