mod Seats
mod Idle
