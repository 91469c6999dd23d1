-- What the search for the shortest stretch computes and promises.
pub mod Machine
