mod Balances
mod Choices
mod Numerators
mod Rests
mod Truncations
