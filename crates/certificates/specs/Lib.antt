-- Certificates: components, reading them with refusals 1, 2, 3 and 7, and encoding them.
pub mod Components
pub mod CertificateReading
pub mod Encoding
pub mod CertificateFailures
