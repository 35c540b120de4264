mod Decimals
mod FirstLaws
