pub mod SameWalks
