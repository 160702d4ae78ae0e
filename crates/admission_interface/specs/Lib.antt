pub mod AdmissionInterface
pub mod KindFrom
