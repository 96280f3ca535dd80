mod Forms
mod Exact
