-- What passes the tests: Passing. Within what bounds an outcome lies: Bounds.
pub mod Passing
pub mod Bounds
