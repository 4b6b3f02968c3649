mod Codes
mod Values
mod OneAnswer
mod RandomParts
mod RandomCodes
mod Order
mod Neighbours
