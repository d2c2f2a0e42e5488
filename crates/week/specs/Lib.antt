-- What the private functions require and answer; the week itself is defined in the specs of `basin`.
pub mod Workers
