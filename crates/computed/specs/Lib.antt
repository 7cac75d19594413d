-- What the calls and the C entries answer: CallCases. What the night report reads and writes: ReportCases.
pub mod CallCases
pub mod ReportCases
