mod Fitting
mod Samples
mod Settled
