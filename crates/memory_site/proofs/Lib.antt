mod Untorn
mod Crashes
mod Choices
mod Histories
mod DataSets
mod Padded
