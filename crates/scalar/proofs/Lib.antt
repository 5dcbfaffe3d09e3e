-- answers and lists of them; one item; the items that a loop has left; for callers: the items of values; one argument
pub mod Results
pub mod MadeSteps
pub mod MadeLeft
pub mod MadeValues
pub mod OneLiteral
