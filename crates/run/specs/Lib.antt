-- What Run answers and writes is route's (specs/Answer: `run_answer`, `run_writes`). What our own functions promise each other:
pub mod Inner
